-- What the texts behind `live` say: the pairs of names, their number, and the form.
use Rattle.std.proofs.Common.{◌≡◌, ◌∙◌, ◌+◌, ◌<◌, ◌≤◌, ◌&&◌, ℕ, suc, Bool, true, false, refl, sym, ap, ap₂, arith, List, [], ◌∷◌, take, drop, length, codes, nat_le, Option, Some, None}
use Rattle.std.specs.Prelude.{if◌then◌else◌}
use Rattle.std.specs.List.{slice_index_or}
use Rattle.std.specs.Str.{bytes_eq}
use Rattle.std.specs.Borrow.{Bor}
use Rattle.std.proofs.lemmas.Bool.Decides.{nat_tests}
use Rattle.command_words.specs.Command.{words_in}
use Rattle.command_words.specs.LiveWords.{DeskFiles, LiveForm, are_desks, are_different_names, desks_in, form_of_plain, form_with, number_of_word, workers_in}
use Rattle.command_words.specs.Views.{desk_names}
use Rattle.command_words.specs.Words.{texts_between}
use Rattle.command_words.proofs.Digits.{kept_within, number_is}

-- ---- names two by two

-- there are twice as many names as desks, and they are those of the desks
desks_count : (names : List (List ℕ)) (desks : List DeskFiles) → Some desks ≡ desks_in names → length names ≡ length desks + length desks
desks_count [] desks h = let none : desks ≡ [] = cc in rw none refl
desks_count (input ∷ []) desks h = absurd (cc)
desks_count (input ∷ output ∷ names) desks h = go (desks_in names) (desks_count names) h
  where
    go : (o : Option (List DeskFiles)) → ((more : List DeskFiles) → Some more ≡ o → length names ≡ length more + length more)
        → Some desks ≡ elim o [ None ↦ None | Some more ↦ Some (record { input = input; output = output } ∷ more) ] → length (input ∷ output ∷ names) ≡ length desks + length desks
    go None rest e = absurd (cc)
    go (Some more) rest e =
        let desk : DeskFiles = record { input = input; output = output } in
        let same : desks ≡ desk ∷ more = cc in
        omega (arith, ap length same, rest more refl)

-- the names of the desks are those that were paired
names_back : (names : List (List ℕ)) (desks : List DeskFiles) → Some desks ≡ desks_in names → desk_names desks ≡ names
names_back [] desks h = let none : desks ≡ [] = cc in ap desk_names none
names_back (input ∷ []) desks h = absurd (cc)
names_back (input ∷ output ∷ names) desks h = go (desks_in names) (names_back names) h
  where
    go : (o : Option (List DeskFiles)) → ((more : List DeskFiles) → Some more ≡ o → desk_names more ≡ names)
        → Some desks ≡ elim o [ None ↦ None | Some more ↦ Some (record { input = input; output = output } ∷ more) ] → desk_names desks ≡ input ∷ output ∷ names
    go None rest e = absurd (cc)
    go (Some more) rest e =
        let desk : DeskFiles = record { input = input; output = output } in
        let same : desks ≡ desk ∷ more = cc in
        ap desk_names same ∙ ap (λ ns. input ∷ output ∷ ns) (rest more refl)

-- there are as many words as references to them
words_count : (words : List (Bor (List ℕ))) → length (words_in words) ≡ length words
words_count [] = refl
words_count (word ∷ words) = ap suc (words_count words)

-- one to sixteen desks pass the test
are_few : (desks : List DeskFiles) → 0 < length desks → length desks ≤ 16 → are_desks desks ≡ true
are_few desks some few = grind (arith, nat_tests)

-- ---- words of no form

-- too few texts, or too many
form_outside : (plan journal : List ℕ) (names : List (List ℕ)) (workers : Option ℕ) → (nat_le 4 (length (plan ∷ journal ∷ names)) && nat_le (length (plan ∷ journal ∷ names)) 34) ≡ false
    → None ≡ form_with plan journal (desks_in names) workers
form_outside plan journal names workers out = go (desks_in names) workers (desks_count names)
  where
    go : (o : Option (List DeskFiles)) (w : Option ℕ) → ((desks : List DeskFiles) → Some desks ≡ o → length names ≡ length desks + length desks) → None ≡ form_with plan journal o w
    go None w count = refl
    go (Some desks) None count = refl
    go (Some desks) (Some n) count =
        let twice : length names ≡ length desks + length desks = count desks refl in
        let form : LiveForm = record { plan = plan; journal = journal; desks = desks; workers = n } in
        let fails : are_desks desks ≡ false = grind (arith, nat_tests) in
        ap (λ (b : Bool). if b then Some form else None) (sym fails)

-- words with too few texts or too many have no form
pub live_outside : (words : List (List ℕ)) (word : Option (List ℕ)) → None ≡ texts_between 4 34 words → None ≡ form_of_plain words word
live_outside [] word h = refl
live_outside (first ∷ []) word h = refl
live_outside (first ∷ plan ∷ []) word h = refl
live_outside (first ∷ plan ∷ journal ∷ names) word h = go (bytes_eq first (codes "live") && are_different_names (plan ∷ journal ∷ names))
    (form_outside plan journal names (workers_in word) (out (nat_le 4 (length (plan ∷ journal ∷ names)) && nat_le (length (plan ∷ journal ∷ names)) 34) h))
  where
    out : (b : Bool) → None ≡ (if b then Some (plan ∷ journal ∷ names) else None) → b ≡ false
    out true e = absurd (cc)
    out false e = refl

    go : (b : Bool) → None ≡ form_with plan journal (desks_in names) (workers_in word) → None ≡ (if b then form_with plan journal (desks_in names) (workers_in word) else None)
    go true e = e
    go false e = refl

-- a word that says no number of workers
form_unmanned : (plan journal : List ℕ) (desks : Option (List DeskFiles)) (workers : Option ℕ) → None ≡ workers → None ≡ form_with plan journal desks workers
form_unmanned plan journal None workers h = refl
form_unmanned plan journal (Some desks) None h = refl
form_unmanned plan journal (Some desks) (Some n) h = absurd (cc)

-- nor have those whose word for the workers is no number up to sixteen
pub live_unmanned : (texts : List (List ℕ)) (word : Option (List ℕ)) → None ≡ workers_in word → None ≡ form_of_plain (codes "live" ∷ texts) word
live_unmanned [] word h = refl
live_unmanned (plan ∷ []) word h = refl
live_unmanned (plan ∷ journal ∷ names) word h = go (are_different_names (plan ∷ journal ∷ names)) (form_unmanned plan journal (desks_in names) (workers_in word) h)
  where
    go : (b : Bool) → None ≡ form_with plan journal (desks_in names) (workers_in word) → None ≡ (if b then form_with plan journal (desks_in names) (workers_in word) else None)
    go true e = e
    go false e = refl

-- ---- words of the form

-- the first two texts are the plan and the journal, and the others the desks' names
pub live_read : (texts files pairs : List (Bor (List ℕ))) (none : Bor (List ℕ)) (desks : List DeskFiles) (workers : ℕ) (word : Option (List ℕ))
    → files ≡ take 2 texts → pairs ≡ drop 2 texts → 4 ≤ length texts → length texts ≤ 34 → are_different_names (words_in texts) ≡ true
    → Some desks ≡ desks_in (words_in pairs) → Some workers ≡ workers_in word
    → Some (record { plan = (slice_index_or files 0 none).now; journal = (slice_index_or files 1 none).now; desks = desks; workers = workers })
    ≡ form_of_plain (codes "live" ∷ words_in texts) word
live_read [] files pairs none desks workers word front back least most different pairing manned = absurd (omega arith)
live_read (plan ∷ []) files pairs none desks workers word front back least most different pairing manned = absurd (omega arith)
live_read (plan ∷ journal ∷ names) files pairs none desks workers word front back least most different pairing manned =
    let same : Some desks ≡ desks_in (words_in names) = pairing ∙ ap (λ ns. desks_in (words_in ns)) back in
    let twice : length (words_in names) ≡ length desks + length desks = desks_count (words_in names) desks same in
    let counted : length (words_in names) ≡ length names = words_count names in
    let some : are_desks desks ≡ true = are_few desks (omega arith) (omega arith) in
    let form : LiveForm = record { plan = plan.now; journal = journal.now; desks = desks; workers = workers } in
    let told : Bor (List ℕ) → Bor (List ℕ) → Option LiveForm = λ p j. Some (record { plan = p.now; journal = j.now; desks = desks; workers = workers }) in
    ap (λ fs. told (slice_index_or fs 0 none) (slice_index_or fs 1 none)) front
    ∙ ap (λ (b : Bool). if b then Some form else None) (sym some)
    ∙ ap₂ (form_with plan.now journal.now) same manned
    ∙ ap (λ (b : Bool). if b then form_with plan.now journal.now (desks_in (words_in names)) (workers_in word) else None) (sym different)

-- the names differ, there are one to sixteen desks, and up to sixteen workers
pub live_different : (texts files pairs : List (Bor (List ℕ))) (none : Bor (List ℕ)) (desks : List DeskFiles)
    → files ≡ take 2 texts → pairs ≡ drop 2 texts → 4 ≤ length texts → are_different_names (words_in texts) ≡ true → Some desks ≡ desks_in (words_in pairs)
    → are_different_names ((slice_index_or files 0 none).now ∷ (slice_index_or files 1 none).now ∷ desk_names desks) ≡ true
live_different [] files pairs none desks front back least different pairing = absurd (omega arith)
live_different (plan ∷ []) files pairs none desks front back least different pairing = absurd (omega arith)
live_different (plan ∷ journal ∷ names) files pairs none desks front back least different pairing =
    let same : Some desks ≡ desks_in (words_in names) = pairing ∙ ap (λ ns. desks_in (words_in ns)) back in
    ap₂ (λ (fs : List (Bor (List ℕ))) (ns : List (List ℕ)). are_different_names ((slice_index_or fs 0 none).now ∷ (slice_index_or fs 1 none).now ∷ ns)) front (names_back (words_in names) desks same)
    ∙ different

-- four to thirty-four texts have one to sixteen desks
pub live_desks : (texts pairs : List (Bor (List ℕ))) (desks : List DeskFiles) → pairs ≡ drop 2 texts → 4 ≤ length texts → length texts ≤ 34
    → Some desks ≡ desks_in (words_in pairs) → are_desks desks ≡ true
live_desks [] pairs desks back least most pairing = absurd (omega arith)
live_desks (plan ∷ []) pairs desks back least most pairing = absurd (omega arith)
live_desks (plan ∷ journal ∷ names) pairs desks back least most pairing =
    let same : Some desks ≡ desks_in (words_in names) = pairing ∙ ap (λ ns. desks_in (words_in ns)) back in
    let twice : length (words_in names) ≡ length desks + length desks = desks_count (words_in names) desks same in
    let counted : length (words_in names) ≡ length names = words_count names in
    are_few desks (omega arith) (omega arith)

-- there are up to sixteen workers
pub workers_few : (workers : ℕ) (word : Option (List ℕ)) → Some workers ≡ workers_in word → workers ≤ 16
workers_few workers None h = let two : workers ≡ 2 = cc in omega arith
workers_few workers (Some word) h = go (number_of_word word) (h ∙ number_is 16 word)
  where
    kept : (n : ℕ) (b : Bool) → nat_le n 16 ≡ b → Some workers ≡ (if b then Some n else None) → workers ≤ 16
    kept n true e k = let same : workers ≡ n = cc in grind (arith, nat_tests)
    kept n false e k = absurd (cc)

    go : (o : Option ℕ) → Some workers ≡ kept_within 16 o → workers ≤ 16
    go None e = absurd (cc)
    go (Some n) e = kept n (nat_le n 16) refl e
