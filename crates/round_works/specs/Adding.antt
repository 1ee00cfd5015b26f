-- The works of a round once a child's flows are added to its parent's.
use Rattle.std.specs.Prelude.{ℕ, ◌<◌, ◌≤◌, List, length, slice_set, Option, Some, None}
use Rattle.aggregate_tree.specs.Sum.{with_child}
use Rattle.aggregate_tree.specs.Tallies.{AreValueSums, AreVolumeSums, with_cells}
use Rattle.price_base.specs.declared.Cell.{Cell}
use Rattle.round_works.specs.Making.{work_at}
use Rattle.round_works.specs.declared.work.Work.{Work}
use Rattle.round_works.specs.declared.work.Work.TheVariants.{Leaf, Inner}

-- a work with one more child, where it is a sum
abbrev pub with_flows : List Cell → List Cell → Option Work → Option Work
with_flows value prev None = None
with_flows value prev (Some (Leaf input)) = Some (Leaf input)
with_flows value prev (Some (Inner sum)) = Some (Inner (with_child value prev sum))

-- the works with one more child of a parent, where there is one
abbrev pub added_to : Option ℕ → List Cell → List Cell → List (Option Work) → List (Option Work)
added_to None value prev works = works
added_to (Some parent) value prev works = slice_set works parent (with_flows value prev (work_at works parent))

-- a work takes one more child, where it is a sum
abbrev pub CanAdd : List Cell → List Cell → Option Work → Type 0
CanAdd value prev None = Unit {0}
CanAdd value prev (Some (Leaf input)) = Unit {0}
CanAdd value prev (Some (Inner sum)) =
    (sum.children < 512) × (length value ≤ length sum.value)
    × AreValueSums (with_cells value sum.value) × AreVolumeSums (with_cells prev sum.prev)

-- so does the work of a parent, where there is one
abbrev pub CanAddTo : Option ℕ → List Cell → List Cell → List (Option Work) → Type 0
CanAddTo None value prev works = Unit {0}
CanAddTo (Some parent) value prev works = CanAdd value prev (work_at works parent)
