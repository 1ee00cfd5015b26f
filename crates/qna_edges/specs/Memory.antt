-- Sources and sinks in memory, as contracts see them.
use Rattle.std.specs.Prelude.{◌==◌, ℕ, ◌+◌, ◌-◌, ◌^◌, min, Bool, List, Some}
use Rattle.std.specs.List.{list_any}
use Rattle.qna_edges.specs.Stock.{Stock}
use Rattle.qna_edges.specs.Paper.{Paper}

-- the number of the call after so many, up to the last number of 64 bits
abbrev pub next_number : ℕ → ℕ
next_number calls = min (calls + 1) (2 ^ 64 - 1)

-- whether the call of this number is one of those that fail
abbrev pub fails_at : List ℕ → ℕ → Bool
fails_at fails number = list_any (λ n. n == number) fails

-- what a source in memory has left, how it gives it, and what it counted
pub record Supply : Type 0 where
  pub left : List ℕ
  -- the most bytes of one read
  pub piece : ℕ
  -- the numbers of the reads that fail, from 1
  pub fails : List ℕ
  pub reads : ℕ
  pub faults : ℕ
  pub name : List ℕ

-- what a sink in memory holds, how it takes more, and what it counted
pub record Store : Type 0 where
  pub held : List ℕ
  -- the most bytes of one write
  pub piece : ℕ
  -- the numbers of the writes that fail, from 1
  pub fails : List ℕ
  pub writes : ℕ
  pub faults : ℕ
  -- how often memory was wanting
  pub wants : ℕ
  pub name : List ℕ

-- the stock of a source in memory
abbrev pub stock_of : Supply → Stock
stock_of source = record { left = Some source.left; faults = source.faults; name = source.name }

-- the paper of a sink in memory
abbrev pub paper_of : Store → Paper
paper_of sink = record { held = Some sink.held; faults = sink.faults; wants = sink.wants; name = sink.name }

-- what a sink in memory holds that never fails, and how often memory was wanting
pub record Quiet : Type 0 where
  pub held : List ℕ
  pub wants : ℕ
