-- The text of a caller's call is the text of no other, and a line says one thing.
use Rattle.std.proofs.Common.{◌≡◌, ℕ, zero, suc, length, ◌+◌, ◌++◌, ◌<◌, ◌≤◌, ◌^◌, List, [], ◌∷◌, get_or, ◌⊎◌, inl, inr, Option, Some, None, refl, ap, ◌∙◌, sym, subst, arith}
use Rattle.std.specs.Prelude.{codes, is_some, nat_eq, ◌||◌, if◌then◌else◌}
use Rattle.std.specs.Fmt.{decimal}
use Rattle.std.proofs.lemmas.Fmt.{decimal_injective, decimal_digit, decimal_nonempty, first_decimal}
use Rattle.std.proofs.lemmas.List.{append_cancel_left, get_or_append_left, length-append}
use Rattle.history.specs.declared.call.Call.{Call}
use Rattle.history.specs.declared.call.Call.TheVariants.{Begin, Table, Control}
use Rattle.history.specs.declared.call.TableCall.TheVariants.{Get, Put, Del, Scan, Save, Back}
use Rattle.history.specs.declared.call.Control as history
use Rattle.history.specs.declared.call.Control.TheVariants.{Commit, Abort, Offer, Settle, Purge}
use Rattle.script_text.specs.Line.{IsCallText, IsLineOf, IsPassedOver, LineSays, control_text}
use Rattle.script_text.specs.Named.{asked_table, AreWordsOf, IsTextFor}
use Rattle.script_text.specs.declared.line.Line.{Line}
use Rattle.script_text.specs.declared.line.Line.TheVariants.{Nothing, Told, Bad}
use Rattle.script_text.proofs.Words.{first_space}
use Rattle.script_text.proofs.Numbers.{decimal_is_word}
use Rattle.script_text.proofs.Fields.{same_long_fields}
use Rattle.script_text.proofs.Naming.{no_sign, name_is_word, tail_is, parted}
use Rattle.std.proofs.lemmas.Bool.{false≢true}

-- the first three letters of a text, added up
mark : List ℕ → ℕ
mark text = get_or text 0 0 + get_or text 1 0 + get_or text 2 0

-- the sum identifies the verb
letters : Call → ℕ
letters Begin = 302
letters (Table (Get name key)) = 320
letters (Table (Put name key value)) = 345
letters (Table (Del name key)) = 309
letters (Table (Scan name low high)) = 311
letters (Table Save) = 330
letters (Table (Back save)) = 294
letters (Control Commit) = 319
letters (Control Abort) = 306
letters (Control Offer) = 315
letters (Control Settle) = 332
letters (Control Purge) = 343

control_mark : (control : history.Control) → mark (control_text control) ≡ letters (Control control)
unfolding mark letters
control_mark Commit = refl
control_mark Abort = refl
control_mark Offer = refl
control_mark Settle = refl
control_mark Purge = refl

mark_of : (call : Call) (text : List ℕ) → AreWordsOf call text → mark text ≡ letters call
unfolding mark letters
mark_of Begin text is = ap mark is
mark_of (Table (Get name key)) text is = ap mark is.1
mark_of (Table (Put name key value)) text is = ap mark is.2
mark_of (Table (Del name key)) text is = ap mark is.1
mark_of (Table (Scan name low high)) text is = ap mark is.2
mark_of (Table Save) text is = ap mark is
mark_of (Table (Back save)) text is = ap mark is.1
mark_of (Control control) text is = ap mark is ∙ control_mark control

-- the sum tells of which part a call is
part : Call → ℕ
part Begin = 0
part (Table call) = 1
part (Control control) = 2

part_by : ℕ → ℕ
part_by sum = if nat_eq sum 302 then 0 else if nat_eq sum 319 || nat_eq sum 306 || nat_eq sum 315 || nat_eq sum 332 || nat_eq sum 343 then 2 else 1

part_of : (call : Call) → part_by (letters call) ≡ part call
unfolding letters part part_by
part_of Begin = refl
part_of (Table (Get name key)) = refl
part_of (Table (Put name key value)) = refl
part_of (Table (Del name key)) = refl
part_of (Table (Scan name low high)) = refl
part_of (Table Save) = refl
part_of (Table (Back save)) = refl
part_of (Control Commit) = refl
part_of (Control Abort) = refl
part_of (Control Offer) = refl
part_of (Control Settle) = refl
part_of (Control Purge) = refl

same_letters : (call other : Call) (text : List ℕ) → AreWordsOf call text → AreWordsOf other text → letters call ≡ letters other
same_letters call other text is js = sym (mark_of call text is) ∙ mark_of other text js

same_part : (call other : Call) (text : List ℕ) → AreWordsOf call text → AreWordsOf other text → part call ≡ part other
same_part call other text is js = sym (part_of call) ∙ ap part_by (same_letters call other text is js) ∙ part_of other

-- a front and a number determine the number
same_key : (front text : List ℕ) (k l : ℕ) → k < 2 ^ 64 → l < 2 ^ 64 → text ≡ front ++ decimal k → text ≡ front ++ decimal l → k ≡ l
same_key front text k l kf lf is js = decimal_injective k l kf lf (append_cancel_left front _ _ (sym is ∙ js))

-- a front, a number, a space and a rest
same_pair : (front text v w : List ℕ) (k l : ℕ) → k < 2 ^ 64 → l < 2 ^ 64 → text ≡ front ++ (decimal k ++ 32 ∷ v) → text ≡ front ++ (decimal l ++ 32 ∷ w) → (k ≡ l) × (v ≡ w)
same_pair front text v w k l kf lf is js = same_long_fields _ v w k l kf lf refl (append_cancel_left front _ _ (sym is ∙ js))

names_are : (one other : List ℕ) → Some one ≡ Some other → one ≡ other
names_are one other e = cc

-- one text is the words of one call of one table
same_words : (call other : Call) (text : List ℕ) → asked_table call ≡ asked_table other → AreWordsOf call text → AreWordsOf other text → call ≡ other
unfolding letters part
same_words Begin Begin text asks is js = refl
same_words (Table (Get m k)) (Table (Get n l)) text asks is js = λ i. Table (Get (names_are m n asks i) (same_key (codes "get ") text k l is.0 js.0 is.1 js.1 i))
same_words (Table (Put m k v)) (Table (Put n l w)) text asks is js =
    let both = same_pair (codes "put ") text v w k l is.0 js.0 is.2 js.2 in
    λ i. Table (Put (names_are m n asks i) (both.0 i) (both.1 i))
same_words (Table (Del m k)) (Table (Del n l)) text asks is js = λ i. Table (Del (names_are m n asks i) (same_key (codes "del ") text k l is.0 js.0 is.1 js.1 i))
same_words (Table (Scan m k h)) (Table (Scan n l g)) text asks is js =
    let both = same_pair (codes "scan ") text (decimal h) (decimal g) k l is.0 js.0 is.2 js.2 in
    let high = decimal_injective h g is.1 js.1 both.1 in
    λ i. Table (Scan (names_are m n asks i) (both.0 i) (high i))
same_words (Table Save) (Table Save) text asks is js = refl
same_words (Table (Back m)) (Table (Back n)) text asks is js = ap (λ (save : ℕ). Table (Back save)) (same_key (codes "back ") text m n (omega (arith, is.0)) (omega (arith, js.0)) is.1 js.1)
same_words (Control Commit) (Control Commit) text asks is js = refl
same_words (Control Abort) (Control Abort) text asks is js = refl
same_words (Control Offer) (Control Offer) text asks is js = refl
same_words (Control Settle) (Control Settle) text asks is js = refl
same_words (Control Purge) (Control Purge) text asks is js = refl
same_words call other text asks is js = absurd (let h : letters call ≡ letters other = same_letters call other text is js in let p : part call ≡ part other = same_part call other text is js in omega (arith, h, p))

-- and tells whether they ask for a table
same_kind : (call other : Call) (text : List ℕ) → AreWordsOf call text → AreWordsOf other text → is_some (asked_table call) ≡ is_some (asked_table other)
unfolding letters part
same_kind Begin Begin text is js = refl
same_kind (Table (Get m k)) (Table (Get n l)) text is js = refl
same_kind (Table (Put m k v)) (Table (Put n l w)) text is js = refl
same_kind (Table (Del m k)) (Table (Del n l)) text is js = refl
same_kind (Table (Scan m k h)) (Table (Scan n l g)) text is js = refl
same_kind (Table Save) (Table Save) text is js = refl
same_kind (Table (Back m)) (Table (Back n)) text is js = refl
same_kind (Control control) (Control other) text is js = refl
same_kind call other text is js = absurd (let h : letters call ≡ letters other = same_letters call other text is js in let p : part call ≡ part other = same_part call other text is js in omega (arith, h, p))

unlike : {X : Type 0} (call other : Call) (name text : List ℕ) → asked_table call ≡ None → asked_table other ≡ Some name → AreWordsOf call text → AreWordsOf other text → X
unlike call other name text none some is js = absurd (false≢true (sym (ap is_some none) ∙ same_kind call other text is js ∙ ap is_some some))

same_call : (call other : Call) (text : List ℕ) → IsCallText call text → IsCallText other text → call ≡ other
same_call call other text is js = go (asked_table call) (asked_table other) refl refl (parted call text is) (parted other text js)
  where
    go : (a b : Option (List ℕ)) → asked_table call ≡ a → asked_table other ≡ b → IsTextFor a (AreWordsOf call) text → IsTextFor b (AreWordsOf other) text → call ≡ other
    go None None e f is js = same_words call other text (e ∙ sym f) is js
    go None (Some n) e f is (proper, inl (words, at, said)) = no_sign call text (n ++ 32 ∷ words) at is
    go None (Some n) e f is (proper, inr (main, said)) = unlike call other n text e f is said
    go (Some m) None e f (proper, inl (words, at, said)) js = no_sign other text (m ++ 32 ∷ words) at js
    go (Some m) None e f (proper, inr (main, said)) js = unlike other call m text f e js said
    go (Some m) (Some n) e f (proper, inl (words, at, said)) (proper', inl (words', at', said')) =
        let both = first_space m n words words' (name_is_word m proper) (name_is_word n proper') (tail_is (m ++ 32 ∷ words) (n ++ 32 ∷ words') (sym at ∙ at')) in
        same_words call other words' (e ∙ ap Some both.0 ∙ sym f) (subst (AreWordsOf call) both.1 said) said'
    go (Some m) (Some n) e f (proper, inl (words, at, said)) (proper', inr (main, said')) = no_sign other text (m ++ 32 ∷ words) at said'
    go (Some m) (Some n) e f (proper, inr (main, said)) (proper', inl (words, at, said')) = no_sign call text (n ++ 32 ∷ words) at said
    go (Some m) (Some n) e f (proper, inr (main, said)) (proper', inr (main', said')) = same_words call other text (e ∙ ap Some (main ∙ sym main') ∙ sym f) said said'

pub first_digit : (n : ℕ) → n < 2 ^ 64 → 48 ≤ get_or (decimal n) 0 0
first_digit zero fits = omega (arith, ap (λ (l : List ℕ). get_or l 0 0) (decimal_digit 0 (omega arith)))
first_digit (suc n) fits = omega (arith, first_decimal (suc n) (omega arith) fits)

-- the line of a caller's call is not passed over, since it begins with a digit
pub not_passed : (c : ℕ) (text line : List ℕ) → c < 2 ^ 64 → line ≡ decimal c ++ 32 ∷ text → IsPassedOver line → ⊥
not_passed c text [] cf e over = omega (arith, decimal_nonempty c cf, simp length-append at (ap length e))
not_passed c text (byte ∷ bytes) cf e over =
    let head : byte ≡ get_or (decimal c ++ 32 ∷ text) 0 0 = ap (λ (l : List ℕ). get_or l 0 0) e in
    let digit = get_or_append_left (decimal c) (32 ∷ text) 0 0 (decimal_nonempty c cf) in
    omega (arith, over, head, digit, first_digit c cf)

-- a number and a text make one line
pub one_line : {X : Type 0} (IsText : ℕ → X → List ℕ → Type 0) (same : (c : ℕ) (x y : X) (text : List ℕ) → IsText c x text → IsText c y text → x ≡ y)
    (numbers c d : ℕ) (x y : X) (line : List ℕ) → numbers ≤ 2 ^ 64 → IsLineOf (IsText c x) numbers c line → IsLineOf (IsText d y) numbers d line → (c ≡ d) × (x ≡ y)
one_line IsText same numbers c d x y line few is js =
    let cf : c < 2 ^ 64 = omega (arith, few, is.0) in
    let df : d < 2 ^ 64 = omega (arith, few, js.0) in
    let both = first_space (decimal c) (decimal d) is.1 js.1 (decimal_is_word c cf) (decimal_is_word d df) (sym is.3 ∙ js.3) in
    let number : c ≡ d = decimal_injective c d cf df both.0 in
    (number, same c x y is.1 is.2 (subst (λ (text : List ℕ). IsText c y text) (sym both.1) (subst (λ (n : ℕ). IsText n y js.1) (sym number) js.2)))

-- what a line may say: nothing, what it tells of a number, or neither
module _ {Line X : Type 0} (nothing bad : Line) (told : ℕ → X → Line) (IsText : ℕ → X → List ℕ → Type 0) (numbers : ℕ) (bytes : List ℕ) where
  abbrev pub IsOneOf : Line → Type 0
  IsOneOf line = ((line ≡ nothing) × IsPassedOver bytes)
      ⊎ (((c : ℕ) × (x : X) × (line ≡ told c x) × IsLineOf (IsText c x) numbers c bytes)
      ⊎ ((line ≡ bad) × (IsPassedOver bytes → ⊥) × ((c : ℕ) (x : X) → IsLineOf (IsText c x) numbers c bytes → ⊥)))

  -- no two of the three hold for one line
  module _ (few : numbers ≤ 2 ^ 64) (same : (c : ℕ) (x y : X) (text : List ℕ) → IsText c x text → IsText c y text → x ≡ y) where
    apart : (c : ℕ) (x : X) → IsLineOf (IsText c x) numbers c bytes → IsPassedOver bytes → ⊥
    apart c x tells = not_passed c tells.1 bytes (omega (arith, tells.0)) tells.3

    pub one_of : (line other : Line) → IsOneOf line → IsOneOf other → line ≡ other
    one_of line other (inl (is, passed)) (inl (js, _)) = is ∙ sym js
    one_of line other (inl (is, passed)) (inr (inl (d, y, js, tells))) = absurd (apart d y tells passed)
    one_of line other (inl (is, passed)) (inr (inr (js, none, _))) = absurd (none passed)
    one_of line other (inr (inl (c, x, is, tells))) (inl (js, passed)) = absurd (apart c x tells passed)
    one_of line other (inr (inl (c, x, is, tells))) (inr (inl (d, y, js, tells'))) =
        let both = one_line IsText same numbers c d x y bytes few tells tells' in
        is ∙ (λ i. told (both.0 i) (both.1 i)) ∙ sym js
    one_of line other (inr (inl (c, x, is, tells))) (inr (inr (js, _, none))) = absurd (none c x tells)
    one_of line other (inr (inr (is, none, _))) (inl (js, passed)) = absurd (none passed)
    one_of line other (inr (inr (is, _, none))) (inr (inl (d, y, js, tells))) = absurd (none d y tells)
    one_of line other (inr (inr (is, _, _))) (inr (inr (js, _, _))) = is ∙ sym js

-- the text of a call, whoever makes it
abbrev IsTextBy : ℕ → Call → List ℕ → Type 0
IsTextBy c call text = IsCallText call text

pub same_line : (callers c d : ℕ) (call other : Call) (line : List ℕ) → callers ≤ 2 ^ 64 → IsLineOf (IsCallText call) callers c line → IsLineOf (IsCallText other) callers d line
    → (c ≡ d) × (call ≡ other)
same_line = one_line IsTextBy (λ c. same_call)

one_told : (callers : ℕ) (bytes : List ℕ) (line : Line) → LineSays callers bytes line → IsOneOf Nothing Bad Told IsTextBy callers bytes line
one_told callers bytes Nothing is = inl (refl, is)
one_told callers bytes (Told c call) is = inr (inl (c, call, refl, is))
one_told callers bytes Bad is = inr (inr (refl, is.0, is.1))

pub same_told : (callers : ℕ) (bytes : List ℕ) (line other : Line) → callers ≤ 2 ^ 64 → LineSays callers bytes line → LineSays callers bytes other → line ≡ other
same_told callers bytes line other few is js =
    one_of Nothing Bad Told IsTextBy callers bytes few (λ c. same_call) line other (one_told callers bytes line is) (one_told callers bytes other js)
