-- What stands under the output's name once its sink came back.
use Rattle.std.proofs.Common.{◌≡◌, ◌∙◌, ◌<◌, ℕ, List, [], ◌++◌, length, take, Option, Some, IfSome, ap, subst}
use Rattle.std.specs.Option.{option_map}
use Rattle.qna_edges.specs.Paper.{Paper, grown, BreaksOff}
use Rattle.qna_parts.specs.CommandEnd.{HoldsPart}
use Rattle.qna_parts.proofs.Ends.{if_some}

-- all of what was made, where it was written whole on an empty sink
pub held_whole : (file left stands : Option (List ℕ)) (sink now : Paper) (made : List ℕ → List ℕ) → left ≡ file → sink.held ≡ Some [] → stands ≡ now.held →
    IfSome left (λ text. now ≡ grown sink (made text)) → IfSome file (λ text. stands ≡ Some (made text))
held_whole file left stands sink now made same empty kept grew =
    subst (λ (o : Option (List ℕ)). IfSome o (λ text. stands ≡ Some (made text))) same
    (if_some left (λ text is. kept ∙ ap (λ (p : Paper). p.held) is ∙ ap (λ (o : Option (List ℕ)). option_map (λ bytes. bytes ++ made text) o) empty) grew)

-- a beginning of it, where its writing was broken off
pub held_part : (file left stands : Option (List ℕ)) (sink now : Paper) (made : List ℕ → List ℕ) → left ≡ file → sink.held ≡ Some [] → stands ≡ now.held →
    IfSome left (λ text. BreaksOff sink now (made text)) → IfSome file (λ text. HoldsPart stands (made text))
unfolding HoldsPart
held_part file left stands sink now made same empty kept broken =
    subst (λ (o : Option (List ℕ)). IfSome o (λ text. (k : ℕ) × (k < length (made text)) × (stands ≡ Some (take k (made text))))) same
    (if_some left (λ text off. (
      off.part.0,
      off.part.1,
      kept ∙ ap (λ (p : Paper). p.held) off.part.2 ∙ ap (λ (o : Option (List ℕ)). option_map (λ bytes. bytes ++ take off.part.0 (made text)) o) empty,
    )) broken)

-- nothing, where nothing was written
pub held_none : (stands : Option (List ℕ)) (sink now : Paper) → sink.held ≡ Some [] → stands ≡ now.held → now ≡ sink → stands ≡ Some []
held_none stands sink now empty kept same = kept ∙ ap (λ (p : Paper). p.held) same ∙ empty
