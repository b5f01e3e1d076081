-- The name of a table before the words of a call.
use Rattle.std.proofs.Common.{◌≡◌, ℕ, ◌≤◌, inl, inr, true, List, [], ◌∷◌, ◌++◌, get_or, Option, Some, None, refl, sym, ap, ◌∙◌, subst, arith}
use Rattle.std.specs.Prelude.{nat_le}
use Rattle.std.specs.List.{list_all}
use Rattle.std.proofs.lemmas.Bool.{and_parts, leb-true}
use Rattle.record_slots.specs.Text.{IsName, is_letter}
use Rattle.history.specs.Key.{main_name}
use Rattle.history.specs.declared.call.Call.{Call}
use Rattle.history.specs.declared.call.Call.TheVariants.{Begin, Table, Control}
use Rattle.history.specs.declared.call.TableCall.TheVariants.{Get, Put, Del, Scan, Save, Back}
use Rattle.history.specs.declared.call.Control as history
use Rattle.history.specs.declared.call.Control.TheVariants.{Commit, Abort, Offer, Settle, Purge}
use Rattle.script_text.specs.Line.{IsCallText, control_text}
use Rattle.script_text.specs.Named.{asked_table, AreWordsOf, IsTextFor, HasParts, IsAsking, IsBehindName}
use Rattle.script_text.specs.Reads.{ReadsText, IsWord}
use Rattle.script_text.proofs.Words.{no_space, first_space}

-- the words of a call begin with a letter
control_letter : (control : history.Control) → 97 ≤ get_or (control_text control) 0 0
control_letter Commit = omega arith
control_letter Abort = omega arith
control_letter Offer = omega arith
control_letter Settle = omega arith
control_letter Purge = omega arith

pub first_letter : (call : Call) (words : List ℕ) → AreWordsOf call words → 97 ≤ get_or words 0 0
first_letter Begin words is = omega (arith, ap (λ (l : List ℕ). get_or l 0 0) is)
first_letter (Table (Get name key)) words is = omega (arith, ap (λ (l : List ℕ). get_or l 0 0) is.1)
first_letter (Table (Put name key value)) words is = omega (arith, ap (λ (l : List ℕ). get_or l 0 0) is.2)
first_letter (Table (Del name key)) words is = omega (arith, ap (λ (l : List ℕ). get_or l 0 0) is.1)
first_letter (Table (Scan name low high)) words is = omega (arith, ap (λ (l : List ℕ). get_or l 0 0) is.2)
first_letter (Table Save) words is = omega (arith, ap (λ (l : List ℕ). get_or l 0 0) is)
first_letter (Table (Back save)) words is = omega (arith, ap (λ (l : List ℕ). get_or l 0 0) is.1)
first_letter (Control control) words is = omega (arith, control_letter control, ap (λ (l : List ℕ). get_or l 0 0) is)

pub no_sign : {X : Type 0} (call : Call) (words rest : List ℕ) → words ≡ 64 ∷ rest → AreWordsOf call words → X
no_sign call words rest at is = absurd (omega (arith, first_letter call words is, ap (λ (l : List ℕ). get_or l 0 0) at))

pub tail_is : (rest other : List ℕ) → ◌≡◌ {A = List ℕ} (64 ∷ rest) (64 ∷ other) → rest ≡ other
tail_is rest other e = cc

-- a name has no space
letters_are_word : (text : List ℕ) → list_all is_letter text ≡ true → IsWord text
letters_are_word [] all = tt
letters_are_word (byte ∷ text) all =
    let both = and_parts (is_letter byte) (list_all is_letter text) all in
    (λ e. let low = leb-true 97 byte (and_parts (nat_le 97 byte) (nat_le byte 122) both.0).0 in omega (arith, low, e), letters_are_word text both.1)

pub name_is_word : (name : List ℕ) → IsName name → IsWord name
name_is_word name is = letters_are_word name is.letters

main_is_name : IsName main_name
main_is_name = record { some = omega arith; short = omega arith; letters = refl }

-- behind the sign a name is read
pub named_text : (bytes rest : List ℕ) (result : Option Call) → bytes ≡ 64 ∷ rest → ReadsText IsBehindName rest result → ReadsText HasParts bytes result
named_text bytes rest None at none = λ call is. go call (asked_table call) refl is
  where
    go : (call : Call) (asked : Option (List ℕ)) → asked_table call ≡ asked → IsTextFor asked (AreWordsOf call) bytes → ⊥
    go call None asks is = no_sign call bytes rest at is
    go call (Some name) asks (proper, inl (words, text, said)) = none call (name, words, proper, tail_is rest (name ++ 32 ∷ words) (sym at ∙ text), (asks, said))
    go call (Some name) asks (proper, inr (main, said)) = no_sign call bytes rest at said
named_text bytes rest (Some call) at (name, words, proper, text, (asks, said)) =
    subst (λ (o : Option (List ℕ)). IsTextFor o (AreWordsOf call) bytes) (sym asks) (proper, inl (words, at ∙ ap (λ (l : List ℕ). 64 ∷ l) text, said))

-- a call that asks for no table
pub plain_text : (bytes : List ℕ) (call : Call) → IsAsking None call bytes → HasParts call bytes
plain_text bytes call (asks, said) = subst (λ (o : Option (List ℕ)). IsTextFor o (AreWordsOf call) bytes) (sym asks) said

-- without the sign the table is `main`
pub main_text : (bytes table : List ℕ) (result : Option Call) → table ≡ main_name → ((rest : List ℕ) → bytes ≡ 64 ∷ rest → ⊥) → ((call : Call) → IsAsking None call bytes → ⊥)
    → ReadsText (IsAsking (Some table)) bytes result → ReadsText HasParts bytes result
main_text bytes table None main unsigned plain none = λ call is. go call (asked_table call) refl is
  where
    go : (call : Call) (asked : Option (List ℕ)) → asked_table call ≡ asked → IsTextFor asked (AreWordsOf call) bytes → ⊥
    go call None asks is = plain call (asks, is)
    go call (Some name) asks (proper, inl (words, text, said)) = unsigned (name ++ 32 ∷ words) text
    go call (Some name) asks (proper, inr (is_main, said)) = none call (asks ∙ ap Some (is_main ∙ sym main), said)
main_text bytes table (Some call) main unsigned plain (asks, said) =
    subst (λ (o : Option (List ℕ)). IsTextFor o (AreWordsOf call) bytes) (sym (asks ∙ ap Some main)) (main_is_name, inr (refl, said))

-- no word is a name with words behind it
pub no_name : (bytes : List ℕ) → IsWord bytes → (call : Call) → IsBehindName call bytes → ⊥
no_name bytes word call (name, words, proper, text, said) = no_space bytes name words word text

-- words behind a text that is no name
pub no_proper : (bytes name words : List ℕ) → IsWord name → bytes ≡ name ++ 32 ∷ words → (IsName name → ⊥) → (call : Call) → IsBehindName call bytes → ⊥
no_proper bytes name words word text improper call (other, more, proper, is, said) =
    let both = first_space name other words more word (name_is_word other proper) (sym text ∙ is) in improper (subst IsName (sym both.0) proper)

-- words behind a name
pub behind_name : (bytes name words table : List ℕ) (result : Option Call) → IsWord name → bytes ≡ name ++ 32 ∷ words → IsName name → table ≡ name
    → ReadsText (IsAsking (Some table)) words result → ReadsText IsBehindName bytes result
behind_name bytes name words table None word text proper same none = λ call (other, more, proper', is, (asks, said)).
    let both = first_space name other words more word (name_is_word other proper') (sym text ∙ is) in
    none call (asks ∙ ap Some (sym both.0 ∙ sym same), subst (AreWordsOf call) (sym both.1) said)
behind_name bytes name words table (Some call) word text proper same (asks, said) = (name, words, proper, text, (asks ∙ ap Some same, said))

-- ---- the text of a call is its parts

named : (name words other : List ℕ) → words ≡ other → ◌≡◌ {A = List ℕ} (64 ∷ (name ++ 32 ∷ words)) (64 ∷ (name ++ 32 ∷ other))
named name words other same = ap (λ (w : List ℕ). 64 ∷ (name ++ 32 ∷ w)) same

pub joined : (call : Call) (text : List ℕ) → HasParts call text → IsCallText call text
joined Begin text is = is
joined (Table (Get name key)) text (proper, inl (words, at, (few, are))) = (few, (proper, inl (at ∙ named name words _ are)))
joined (Table (Get name key)) text (proper, inr (main, (few, are))) = (few, (proper, inr (main, are)))
joined (Table (Put name key value)) text (proper, inl (words, at, (few, more, are))) = (few, more, (proper, inl (at ∙ named name words _ are)))
joined (Table (Put name key value)) text (proper, inr (main, (few, more, are))) = (few, more, (proper, inr (main, are)))
joined (Table (Del name key)) text (proper, inl (words, at, (few, are))) = (few, (proper, inl (at ∙ named name words _ are)))
joined (Table (Del name key)) text (proper, inr (main, (few, are))) = (few, (proper, inr (main, are)))
joined (Table (Scan name low high)) text (proper, inl (words, at, (few, more, are))) = (few, more, (proper, inl (at ∙ named name words _ are)))
joined (Table (Scan name low high)) text (proper, inr (main, (few, more, are))) = (few, more, (proper, inr (main, are)))
joined (Table Save) text is = is
joined (Table (Back save)) text is = is
joined (Control control) text is = is

pub parted : (call : Call) (text : List ℕ) → IsCallText call text → HasParts call text
parted Begin text is = is
parted (Table (Get name key)) text (few, (proper, inl at)) = (proper, inl (_, at, (few, refl)))
parted (Table (Get name key)) text (few, (proper, inr (main, are))) = (proper, inr (main, (few, are)))
parted (Table (Put name key value)) text (few, more, (proper, inl at)) = (proper, inl (_, at, (few, more, refl)))
parted (Table (Put name key value)) text (few, more, (proper, inr (main, are))) = (proper, inr (main, (few, more, are)))
parted (Table (Del name key)) text (few, (proper, inl at)) = (proper, inl (_, at, (few, refl)))
parted (Table (Del name key)) text (few, (proper, inr (main, are))) = (proper, inr (main, (few, are)))
parted (Table (Scan name low high)) text (few, more, (proper, inl at)) = (proper, inl (_, at, (few, more, refl)))
parted (Table (Scan name low high)) text (few, more, (proper, inr (main, are))) = (proper, inr (main, (few, more, are)))
parted (Table Save) text is = is
parted (Table (Back save)) text is = is
parted (Control control) text is = is

-- what is read by its parts is read by its text
pub read_joined : (bytes : List ℕ) (result : Option Call) → ReadsText HasParts bytes result → ReadsText IsCallText bytes result
read_joined bytes None none = λ call is. none call (parted call bytes is)
read_joined bytes (Some call) is = joined call bytes is
