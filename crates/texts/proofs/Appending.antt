-- Pieces that are appended one after another, of which the last may be cut short.
use Rattle.std.proofs.Common.{◌≡◌, ℕ, ◌+◌, ◌<◌, Bool, true, false, List, ◌++◌, length, take, drop, get_or, refl, sym, ap, ◌∙◌, arith, subst, append_assoc, Result, Ok, Err}
use Rattle.std.specs.Prelude.{IsTrue, IsErr}
use Rattle.std.specs.List.{flat_map}
use Rattle.std.proofs.lemmas.List.{length-append, take-append-drop, drop_more}
use Rattle.std.proofs.lemmas.List.Concat.{flat_map-append}
use Rattle.mars_base.specs.Causes.{Rose}
use Rattle.texts.specs.Written.{IsWritten, Wrote, TextSoFar, Appends}

-- all of a piece was appended
pub record AppendsAll (tells : Bool) (old new : TextSoFar) (piece : List ℕ) : Type 0 where
  pub whole : IsTrue tells → new.text ≡ old.text ++ piece
  pub kept : new.faults ≡ old.faults

-- a front of a piece is one of a longer piece
front_of_more : (part piece more : List ℕ) → IsWritten true part piece → IsWritten true part (piece ++ more)
front_of_more part piece more cut =
    (cut.0 ++ more, omega (arith, cut.1, length-append cut.0 more), ap (λ (text : List ℕ). text ++ more) cut.2 ∙ append_assoc part cut.0 more)

-- a piece and a front of the next
front_after : (piece part next : List ℕ) → IsWritten true part next → IsWritten true (piece ++ part) (piece ++ next)
front_after piece part next cut = (cut.0, cut.1, ap (λ (text : List ℕ). piece ++ text) cut.2 ∙ sym (append_assoc piece part cut.0))

-- the pieces of a list, about one of them
pieces_from : {X : Type 0} (f : X → List ℕ) (xs : List X) (i : ℕ) (d : X) → i < length xs → flat_map f (take i xs) ++ (f (get_or xs i d) ++ flat_map f (drop (i + 1) xs)) ≡ flat_map f xs
pieces_from f xs i d there =
    let split : take i xs ++ drop i xs ≡ xs = take-append-drop i xs in
    ap (λ (text : List ℕ). flat_map f (take i xs) ++ text) (ap (flat_map f) (sym (drop_more xs i d there))) ∙ sym (flat_map-append f (take i xs) (drop i xs)) ∙ ap (flat_map f) split

-- the same text, put together otherwise
pub same_text : {T E : Type 0} {tells : Bool} {old new : TextSoFar} {result : Result T E} {piece other : List ℕ}
    → piece ≡ other → Appends tells old new result piece → Appends tells old new result other
same_text {T} {E} {tells} {old} {new} {result} is appended = subst (λ (text : List ℕ). Appends tells old new result text) is appended

pub all_of : {T E : Type 0} {tells : Bool} {old new : TextSoFar} {value : T} {piece : List ℕ} → Appends {T = T} {E = E} tells old new (Ok value) piece → AppendsAll tells old new piece
all_of appended = record { whole = appended.whole; kept = appended.cause.kept }

-- after all of a piece comes the next
pub and_then : {T E : Type 0} {tells : Bool} {old between new : TextSoFar} {result : Result T E} {piece next : List ℕ}
    → AppendsAll tells old between piece → Appends tells between new result next → Appends tells old new result (piece ++ next)
and_then {old = old} {new = new} {result = Ok value} {piece = piece} {next = next} before after =
    record {
      whole = λ told. after.whole told ∙ ap (λ (text : List ℕ). text ++ next) (before.whole told) ∙ append_assoc old.text piece next;
      part = tt;
      cause = record { later = omega (arith, before.kept, after.cause.later); failed = tt; kept = after.cause.kept ∙ before.kept };
    }
and_then {old = old} {new = new} {result = Err fault} {piece = piece} {next = next} before after =
    record {
      whole = tt;
      part = (
        piece ++ after.part.0,
        front_after piece after.part.0 next after.part.1,
        λ told. after.part.2 told ∙ ap (λ (text : List ℕ). text ++ after.part.0) (before.whole told) ∙ append_assoc old.text piece after.part.0,
      );
      cause = record { later = omega (arith, before.kept, after.cause.later); failed = subst (λ count. Rose count new.faults) before.kept after.cause.failed; kept = tt };
    }

-- a piece that was cut short ends the whole
pub cut_there : {T E U F : Type 0} {tells : Bool} {old new : TextSoFar} {fault : E} {piece : List ℕ} (final : Result U F) (more : List ℕ)
    → IsErr final → Appends {T = T} {E = E} tells old new (Err fault) piece → Appends tells old new final (piece ++ more)
cut_there (Ok value) more ends appended = absurd (cc)
cut_there {piece = piece} (Err last) more ends appended =
    record {
      whole = tt;
      part = (appended.part.0, front_of_more appended.part.0 piece more appended.part.1, appended.part.2);
      cause = record { later = appended.cause.later; failed = appended.cause.failed; kept = tt };
    }

-- the same in a list of pieces
pub cut_at : {T E U F X : Type 0} {tells : Bool} {old between new : TextSoFar} {fault : E} {piece : List ℕ} (f : X → List ℕ) (xs : List X) (i : ℕ) (d : X) (final : Result U F)
    → i < length xs → piece ≡ f (get_or xs i d) → IsErr final → AppendsAll tells old between (flat_map f (take i xs)) → Appends {T = T} {E = E} tells between new (Err fault) piece
    → Appends tells old new final (flat_map f xs)
cut_at f xs i d final there is ends before after =
    same_text (pieces_from f xs i d there) (and_then before (cut_there final (flat_map f (drop (i + 1) xs)) ends (same_text is after)))

-- as much was written as was appended
pub wrote_front : {T E : Type 0} {tells : Bool} {old new : TextSoFar} {piece : List ℕ} (result : Result T E) → Appends tells old new result piece
    → Wrote tells old.text new.text old.faults new.faults (λ cut text. IsWritten cut text piece)
wrote_front {piece = piece} (Ok value) appended = record { cut = false; text = piece; wrote = appended.whole; counts = appended.cause.kept; holds = refl }
wrote_front (Err fault) appended =
    record { cut = true; text = appended.part.0; wrote = appended.part.2; counts = appended.cause.failed; holds = appended.part.1 }
