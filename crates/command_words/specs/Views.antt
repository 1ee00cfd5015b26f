-- What the words of `live` that were read say.
use Rattle.std.specs.Prelude.{◌≡◌, ℕ, ◌≤◌, true, List, [], ◌∷◌, map}
use Rattle.command_words.specs.LiveWords.{DeskFiles, LiveForm, are_desks, are_different_names}
use Rattle.command_words.specs.declared.live.DeskNames.{DeskNames}
use Rattle.command_words.specs.declared.live.LiveWords.{LiveWords}

-- what the words that were read say
abbrev pub files_of : DeskNames → DeskFiles
files_of names = record { input = names.input.now; output = names.output.now }

abbrev pub live_view : LiveWords → LiveForm
live_view said = record {
  plan = said.plan.now;
  journal = said.journal.now;
  desks = map files_of said.desks.items;
  workers = said.workers;
}

-- the names of all files, in the order of the words
abbrev pub desk_names : List DeskFiles → List (List ℕ)
desk_names [] = []
desk_names (desk ∷ desks) = desk.input ∷ desk.output ∷ desk_names desks

abbrev pub names_in : LiveForm → List (List ℕ)
names_in form = form.plan ∷ form.journal ∷ desk_names form.desks

-- the words that were read have the form: one to sixteen desks, different names, and up to sixteen workers
pub record IsForm (said : LiveWords) : Type 0 where
  pub different : are_different_names (names_in (live_view said)) ≡ true
  pub desks : are_desks (live_view said).desks ≡ true
  pub workers : said.workers ≤ 16
