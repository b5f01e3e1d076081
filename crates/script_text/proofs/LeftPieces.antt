-- Pieces of a list that is taken from its front, appended one after another.
use Rattle.std.proofs.Common.{◌≡◌, ℕ, Bool, List, [], ◌∷◌, ◌++◌, refl, sym, ap, ◌∙◌, append_assoc, Result, Err}
use Rattle.std.specs.Prelude.{IsErr}
use Rattle.std.specs.List.{flat_map}
use Rattle.std.proofs.lemmas.List.{append-nil}
use Rattle.texts.specs.Written.{TextSoFar, Appends}
use Rattle.texts.proofs.Appending.{AppendsAll, same_text, and_then, cut_there}

-- The pieces of what was taken were appended, and with those of what is left they are all.
pub record Left {X : Type 0} (f : X → List ℕ) (tells : Bool) (old now : TextSoFar) (all left : List X) : Type 0 where
  pub text : List ℕ
  pub appended : AppendsAll tells old now text
  pub still : text ++ flat_map f left ≡ flat_map f all

pub all_left : {X : Type 0} {tells : Bool} {old : TextSoFar} (f : X → List ℕ) (all : List X) → Left f tells old old all all
all_left {old = old} f all = record { text = []; appended = record { whole = λ told. sym (append-nil old.text); kept = refl }; still = refl }

pub one_less : {X : Type 0} {tells : Bool} {old between now : TextSoFar} {all : List X} (f : X → List ℕ) (x : X) (rest left : List X) → left ≡ x ∷ rest
    → Left f tells old between all left → AppendsAll tells between now (f x) → Left f tells old now all rest
one_less {old = old} f x rest left is before after =
    record {
      text = before.text ++ f x;
      appended = record {
        whole = λ told. after.whole told ∙ ap (λ (t : List ℕ). t ++ f x) (before.appended.whole told) ∙ append_assoc old.text before.text (f x);
        kept = after.kept ∙ before.appended.kept;
      };
      still = append_assoc before.text (f x) (flat_map f rest) ∙ ap (λ l. before.text ++ flat_map f l) (sym is) ∙ before.still;
    }

pub cut_left : {T E U F X : Type 0} {tells : Bool} {old between new : TextSoFar} {fault : E} {all : List X} (f : X → List ℕ) (x : X) (rest left : List X) (final : Result U F)
    → left ≡ x ∷ rest → IsErr final → Left f tells old between all left → Appends {T = T} {E = E} tells between new (Err fault) (f x) → Appends tells old new final (flat_map f all)
cut_left f x rest left final is ends before after =
    same_text (ap (λ l. before.text ++ flat_map f l) (sym is) ∙ before.still) (and_then before.appended (cut_there final (flat_map f rest) ends after))

pub none_left : {X : Type 0} {tells : Bool} {old now : TextSoFar} {all : List X} (f : X → List ℕ) (left : List X) → left ≡ [] → Left f tells old now all left → AppendsAll tells old now (flat_map f all)
none_left {old = old} {all = all} f left is before =
    let whole : before.text ≡ flat_map f all = sym (append-nil before.text) ∙ ap (λ l. before.text ++ flat_map f l) (sym is) ∙ before.still in
    record { whole = λ told. before.appended.whole told ∙ ap (λ (t : List ℕ). old.text ++ t) whole; kept = before.appended.kept }
