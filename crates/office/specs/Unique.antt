-- A history is lawful under a plan in one way at most.
use Rattle.std.specs.Prelude.{ℕ, List, true}
use Rattle.std.specs.Coded.{le_prop, coded_bool, coded_ℕ, Coded-set}
use lib.Dec.{T_prop}
use lib.Signed.{le_z}
use Rattle.series_tables.specs.Fits.{FitsPlan}
use Rattle.series_tables.specs.LastValue.{least_of, most_of}
use Rattle.series_tables.specs.Plan.{PlanShape}
use Rattle.series_tables.specs.declared.input.Input.{Input}
use Rattle.accounts_history.specs.History.{IsLawful, MayAccept, MayFollow, MayPublish}
use Rattle.accounts_history.specs.declared.entry.Entry.{Entry}
use Rattle.accounts_history.specs.declared.entry.Entry.TheVariants.{Accept, Publish}

FitsPlan-prop : (plan : PlanShape) (input : Input) → IsProp (FitsPlan plan input)
FitsPlan-prop plan input one other i = record {
  room = record {
    item = le_prop one.room.item other.room.item i;
    period = le_prop one.room.period other.room.period i;
    least = record { le = T_prop (le_z (least_of input.kind) input.value) one.room.least.le other.room.least.le i };
    most = record { le = T_prop (le_z input.value (most_of input.kind)) one.room.most.le other.room.most.le i };
  };
  leaf = Coded-set coded_bool _ true one.leaf other.leaf i;
}

MayAccept-prop : (plan : PlanShape) (history : List Entry) (input : Input) → IsProp (MayAccept plan history input)
MayAccept-prop plan history input one other i = record {
  fits = FitsPlan-prop plan input one.fits other.fits i;
  room = le_prop one.room other.room i;
  near = le_prop one.near other.near i;
}

MayPublish-prop : (plan : PlanShape) (history : List Entry) (front jobs : ℕ)
    → IsProp (MayPublish plan history front jobs)
MayPublish-prop plan history front jobs one other i = record {
  later = le_prop one.later other.later i;
  accepted = le_prop one.accepted other.accepted i;
  touched = Coded-set coded_ℕ jobs _ one.touched other.touched i;
}

MayFollow-prop : (plan : PlanShape) (history : List Entry) (entry : Entry) → IsProp (MayFollow plan history entry)
MayFollow-prop plan history (Accept party input) = MayAccept-prop plan history input
MayFollow-prop plan history (Publish party front jobs) = MayPublish-prop plan history front jobs

pub IsLawful-prop : (plan : PlanShape) (history : List Entry) → IsProp (IsLawful plan history)
IsLawful-prop plan history one other i before after entry stands =
    MayFollow-prop plan before entry (one before after entry stands) (other before after entry stands) i
