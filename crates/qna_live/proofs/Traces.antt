-- What was done to the files of desks, between shelves that are the same under their names.
use Rattle.std.proofs.Common.{◌≡◌, ◌∙◌, ℕ, Bool, List, [], ◌∷◌, ◌++◌, map, refl, sym, ap}
use Rattle.std.specs.Prelude.{◌≢◌}
use Rattle.qna_edges.specs.Shelves.{Same, Shelf, Shelves}
use Rattle.qna_parts.specs.Trace.{Trace, trace_of}
use Rattle.command_words.specs.LiveWords.{DeskFiles}
use Rattle.command_words.specs.Views.{desk_names}
use Rattle.qna_live.specs.Opening.{DeskTraces, IsNoneOf, desk_traces, traces_of}

-- the same stands under each desk's names
abbrev pub AreSame : Shelves → Shelves → List DeskFiles → Type 0
AreSame old new [] = Unit {0}
AreSame old new (desk ∷ desks) =
    (new.under desk.input ≡ old.under desk.input) × (new.under desk.output ≡ old.under desk.output)
    × AreSame old new desks

pub same-all : (old new : Shelves) (desks : List DeskFiles) → ((name : List ℕ) → new.under name ≡ old.under name) → AreSame old new desks
same-all old new [] all = tt
same-all old new (desk ∷ desks) all = (all desk.input, all desk.output, same-all old new desks all)

-- where only two names were touched, the same stands under others
pub same-but : (old new : Shelves) (first second : List ℕ) (desks : List DeskFiles) → ((name : List ℕ) → name ≢ first → name ≢ second → new.under name ≡ old.under name) →
    IsNoneOf first (desk_names desks) → IsNoneOf second (desk_names desks) → AreSame old new desks
same-but old new first second [] only one two = tt
same-but old new first second (desk ∷ desks) only one two = (
  only desk.input (λ same. one.0 (sym same)) (λ same. two.0 (sym same)),
  only desk.output (λ same. one.1.0 (sym same)) (λ same. two.1.0 (sym same)),
  same-but old new first second desks only one.1.1 two.1.1,
)

-- where one name was touched
pub same-but-one : (old new : Shelves) (first : List ℕ) (desks : List DeskFiles) → ((name : List ℕ) → name ≢ first → new.under name ≡ old.under name) → IsNoneOf first (desk_names desks) → AreSame old new desks
same-but-one old new first desks only one = same-but old new first first desks (λ name no again. only name no) one one

-- the trace of a name under which the same stands
pub trace-same : (old new before after : Shelves) (name : List ℕ) → before.tells ≡ old.tells → before.under name ≡ old.under name → after.under name ≡ new.under name → trace_of before after name ≡ trace_of old new name
trace-same old new before after name tells first then =
    ap (λ (told : Bool). record { name = name; tells = told; old = before.under name; new = after.under name }) tells
    ∙ ap (λ (shelf : Shelf). record { name = name; tells = old.tells; old = shelf; new = after.under name }) first
    ∙ ap (λ (shelf : Shelf). record { name = name; tells = old.tells; old = old.under name; new = shelf }) then

pub traces-same : (old new before after : Shelves) (desks : List DeskFiles) → before.tells ≡ old.tells → AreSame old before desks → AreSame new after desks → traces_of before after desks ≡ traces_of old new desks
traces-same old new before after [] tells first then = refl
traces-same old new before after (desk ∷ desks) tells first then =
    ap (λ (file : Trace). record { input = file; output = trace_of before after desk.output } ∷ traces_of before after desks) (trace-same old new before after desk.input tells first.0 then.0)
    ∙ ap (λ (file : Trace). record { input = trace_of old new desk.input; output = file } ∷ traces_of before after desks) (trace-same old new before after desk.output tells first.1 then.1)
    ∙ ap (λ (files : List DeskTraces). desk_traces old new desk ∷ files) (traces-same old new before after desks tells first.2 then.2)
