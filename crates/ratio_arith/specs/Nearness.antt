-- Nearness of whole numbers: how far two of them are apart at most.
use Rattle.std.specs.Prelude.{ℤ, ◌+ℤ◌, ◌-ℤ◌, ◌≤ℤ◌}

-- x and y are at most b apart
pub record IsNear (x y b : ℤ) : Type 0 where
  pub low : (x -ℤ b) ≤ℤ y
  pub high : y ≤ℤ (x +ℤ b)
