-- Stocks from which bytes are taken.
use Rattle.std.proofs.Common.{◌≡◌, ℕ, arith, ap}
use Rattle.qna_edges.specs.Count.{capped}
use Rattle.qna_edges.specs.Stock.{Stock, GivesBytes, ReadFails}

-- a read that gave bytes changed neither the count of faults nor the name
pub faults_given : (old new : Stock) → GivesBytes old new → new.faults ≡ old.faults
faults_given old new gave = ap (λ (s : Stock). s.faults) gave

pub name_given : (old new : Stock) → GivesBytes old new → new.name ≡ old.name
name_given old new gave = ap (λ (s : Stock). s.name) gave

-- nor did one that failed change the name
pub name_failed : (old new : Stock) → ReadFails old new → new.name ≡ old.name
name_failed old new failed = ap (λ (s : Stock). s.name) failed.same

pub ruleset of_reads = (faults_given, name_given, name_failed)

-- no fault was added to a count
pub capped_none : (count faults : ℕ) → faults ≡ 0 → capped count faults ≡ count
capped_none count faults none = omega (arith, none)
