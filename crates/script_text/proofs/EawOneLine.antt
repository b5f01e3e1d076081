-- The text of a number's command is the text of no other, and a line means one thing.
use Rattle.std.proofs.Common.{◌≡◌, ℕ, ◌+◌, ◌*◌, ◌<◌, ◌≤◌, ◌^◌, List, [], ◌∷◌, ◌++◌, get_or, inl, inr, refl, ap, sym, ◌∙◌, arith}
use Rattle.std.specs.Prelude.{codes}
use Rattle.std.specs.Fmt.{decimal}
use Rattle.std.proofs.lemmas.Fmt.{decimal_injective}
use Rattle.std.proofs.lemmas.List.{append_cancel_left}
use Rattle.eaw_face.specs.Command.{Command, log_write, log_edit, commit, commit_group, abort, nested_top, partial_abort, atomic_write, log_read, read}
use Rattle.script_text.specs.HexText.{hex_of, IsBlock}
use Rattle.script_text.specs.Eaw.{Raw, does, read_log, log_len, held, IsTextOf}
use Rattle.script_text.specs.Line.{IsLineOf}
use Rattle.script_text.specs.EawLines.{Meaning, nothing, told, bad, Means}
use Rattle.script_text.proofs.OneLine.{IsOneOf, one_of, one_line}
use Rattle.script_text.proofs.HexTexts.{hex_of_injective}
use Rattle.script_text.proofs.Fields.{same_fields}

-- the first letter of a text, and twice the fifth
mark : List ℕ → ℕ
mark text = get_or text 0 0 + 2 * get_or text 4 0

-- together they identify the verb
letters : Raw → ℕ
letters (does (log_write u addr bytes)) = 336
letters (does (commit u)) = 309
letters (does (commit_group us)) = 0
letters (does (abort u)) = 329
letters (does (nested_top u offset)) = 312
letters (does (partial_abort u offset)) = 322
letters (does (atomic_write u addr bytes)) = 307
letters (does (log_edit u pos place bytes)) = 317
letters (does (log_read u)) = 0
letters (does (read addr len)) = 178
letters (read_log pos) = 330
letters log_len = 310
letters (held logger) = 168

mark_of : (t : ℕ) (raw : Raw) (text : List ℕ) → IsTextOf t raw text → mark text ≡ letters raw
unfolding mark letters
mark_of t (does (log_write u addr bytes)) text is = ap mark is.3
mark_of t (does (commit u)) text is = ap mark is.1
mark_of t (does (commit_group us)) text is = absurd is
mark_of t (does (abort u)) text is = ap mark is.1
mark_of t (does (nested_top u offset)) text is = ap mark is.2
mark_of t (does (partial_abort u offset)) text is = ap mark is.2
mark_of t (does (atomic_write u addr bytes)) text is = ap mark is.3
mark_of t (does (log_edit u pos place bytes)) text is = ap mark is.4
mark_of t (does (log_read u)) text is = absurd is
mark_of t (does (read addr len)) text is = ap mark is.3
mark_of t (read_log pos) text is = ap mark is.1
mark_of t log_len text is = ap mark is
mark_of t (held logger) text is = ap mark is.1

same_letters : (t : ℕ) (raw other : Raw) (text : List ℕ) → IsTextOf t raw text → IsTextOf t other text → letters raw ≡ letters other
same_letters t raw other text is js = sym (mark_of t raw text is) ∙ mark_of t other text js

-- no command of the store has the letters of a question
does_letters : (command : Command) → (letters (does command) ≡ 330 → ⊥) × (letters (does command) ≡ 310 → ⊥) × (letters (does command) ≡ 168 → ⊥)
unfolding letters
does_letters (log_write u addr bytes) = (λ e. omega (arith, e), λ e. omega (arith, e), λ e. omega (arith, e))
does_letters (log_edit u pos place bytes) = (λ e. omega (arith, e), λ e. omega (arith, e), λ e. omega (arith, e))
does_letters (commit u) = (λ e. omega (arith, e), λ e. omega (arith, e), λ e. omega (arith, e))
does_letters (commit_group us) = (λ e. omega (arith, e), λ e. omega (arith, e), λ e. omega (arith, e))
does_letters (abort u) = (λ e. omega (arith, e), λ e. omega (arith, e), λ e. omega (arith, e))
does_letters (nested_top u offset) = (λ e. omega (arith, e), λ e. omega (arith, e), λ e. omega (arith, e))
does_letters (partial_abort u offset) = (λ e. omega (arith, e), λ e. omega (arith, e), λ e. omega (arith, e))
does_letters (atomic_write u addr bytes) = (λ e. omega (arith, e), λ e. omega (arith, e), λ e. omega (arith, e))
does_letters (log_read u) = (λ e. omega (arith, e), λ e. omega (arith, e), λ e. omega (arith, e))
does_letters (read addr len) = (λ e. omega (arith, e), λ e. omega (arith, e), λ e. omega (arith, e))

same_bytes : (a b : List ℕ) → IsBlock a → IsBlock b → hex_of a ≡ hex_of b → a ≡ b
same_bytes a b is js e = hex_of_injective a b is.2 js.2 e

-- a front and a number determine the number
same_number : (front : List ℕ) (m n : ℕ) → m < 2 ^ 32 → n < 2 ^ 32 → front ++ decimal m ≡ front ++ decimal n → m ≡ n
same_number front m n mf nf e = decimal_injective m n (omega arith) (omega arith) (append_cancel_left front _ _ e)

-- a front, a number, a space and bytes
same_write : (front a b : List ℕ) (m n : ℕ) → (m < 2 ^ 32) × IsBlock a → (n < 2 ^ 32) × IsBlock b → front ++ (decimal m ++ 32 ∷ hex_of a) ≡ front ++ (decimal n ++ 32 ∷ hex_of b) → (m ≡ n) × (a ≡ b)
same_write front a b m n is js e =
    let both = same_fields _ (hex_of a) (hex_of b) m n is.0 js.0 refl (append_cancel_left front _ _ e) in
    (both.0, same_bytes a b is.1 js.1 both.1)

same_raw : (t : ℕ) (raw other : Raw) (text : List ℕ) → IsTextOf t raw text → IsTextOf t other text → raw ≡ other
unfolding letters
same_raw t (does (log_write u m a)) (does (log_write v n b)) text is js =
    let same = same_write (codes "logwrite ") a b m n (is.1, is.2) (js.1, js.2) (sym is.3 ∙ js.3) in
    ap (λ (p : ℕ × ℕ × List ℕ). does (log_write p.0 p.1 p.2)) (λ i. ((is.0 ∙ sym js.0) i, same.0 i, same.1 i))
same_raw t (does (commit u)) (does (commit v)) text is js = ap (λ (n : ℕ). does (commit n)) (is.0 ∙ sym js.0)
same_raw t (does (abort u)) (does (abort v)) text is js = ap (λ (n : ℕ). does (abort n)) (is.0 ∙ sym js.0)
same_raw t (does (nested_top u m)) (does (nested_top v n)) text is js =
    let same = same_number (codes "nested ") m n is.1 js.1 (sym is.2 ∙ js.2) in
    ap (λ (p : ℕ × ℕ). does (nested_top p.0 p.1)) (λ i. ((is.0 ∙ sym js.0) i, same i))
same_raw t (does (partial_abort u m)) (does (partial_abort v n)) text is js =
    let same = same_number (codes "partial ") m n is.1 js.1 (sym is.2 ∙ js.2) in
    ap (λ (p : ℕ × ℕ). does (partial_abort p.0 p.1)) (λ i. ((is.0 ∙ sym js.0) i, same i))
same_raw t (does (atomic_write u m a)) (does (atomic_write v n b)) text is js =
    let same = same_write (codes "atomic ") a b m n (is.1, is.2) (js.1, js.2) (sym is.3 ∙ js.3) in
    ap (λ (p : ℕ × ℕ × List ℕ). does (atomic_write p.0 p.1 p.2)) (λ i. ((is.0 ∙ sym js.0) i, same.0 i, same.1 i))
same_raw t (does (log_edit u p m a)) (does (log_edit v q n b)) text is js =
    let first = same_fields _ (decimal m ++ 32 ∷ hex_of a) (decimal n ++ 32 ∷ hex_of b) p q is.1 js.1 refl (append_cancel_left (codes "editlog ") _ _ (sym is.4 ∙ js.4)) in
    let same = same_write [] a b m n (is.2, is.3) (js.2, js.3) first.1 in
    ap (λ (x : ℕ × ℕ × ℕ × List ℕ). does (log_edit x.0 x.1 x.2 x.3)) (λ i. ((is.0 ∙ sym js.0) i, first.0 i, same.0 i, same.1 i))
same_raw t (does (read m a)) (does (read n b)) text is js =
    let first = same_fields _ (decimal a) (decimal b) m n is.0 js.0 refl (append_cancel_left (codes "read ") _ _ (sym is.3 ∙ js.3)) in
    let same : a ≡ b = decimal_injective a b (omega (arith, is.2)) (omega (arith, js.2)) first.1 in
    ap (λ (p : ℕ × ℕ). does (read p.0 p.1)) (λ i. (first.0 i, same i))
same_raw t (read_log m) (read_log n) text is js = ap read_log (same_number (codes "readlog ") m n is.0 js.0 (sym is.1 ∙ js.1))
same_raw t log_len log_len text is js = refl
same_raw t (held m) (held n) text is js = ap held (same_number (codes "held ") m n (omega (arith, is.0)) (omega (arith, js.0)) (sym is.1 ∙ js.1))
same_raw t (does (log_read u)) (does other) text is js = absurd is
same_raw t (does (commit_group us)) (does other) text is js = absurd is
same_raw t (does command) (read_log n) text is js = absurd ((does_letters command).0 (same_letters t (does command) (read_log n) text is js))
same_raw t (does command) log_len text is js = absurd ((does_letters command).1 (same_letters t (does command) log_len text is js))
same_raw t (does command) (held n) text is js = absurd ((does_letters command).2 (same_letters t (does command) (held n) text is js))
same_raw t (read_log n) (does command) text is js = absurd ((does_letters command).0 (same_letters t (does command) (read_log n) text js is))
same_raw t log_len (does command) text is js = absurd ((does_letters command).1 (same_letters t (does command) log_len text js is))
same_raw t (held n) (does command) text is js = absurd ((does_letters command).2 (same_letters t (does command) (held n) text js is))
same_raw t raw other text is js = absurd (let h : letters raw ≡ letters other = same_letters t raw other text is js in omega (arith, h))

pub same_eaw_line : (numbers c d : ℕ) (raw other : Raw) (line : List ℕ) → numbers ≤ 2 ^ 64 → IsLineOf (IsTextOf c raw) numbers c line → IsLineOf (IsTextOf d other) numbers d line → (c ≡ d) × (raw ≡ other)
same_eaw_line = one_line IsTextOf same_raw

one_meant : (numbers : ℕ) (bytes : List ℕ) (meaning : Meaning) → Means numbers bytes meaning → IsOneOf nothing bad told IsTextOf numbers bytes meaning
one_meant numbers bytes nothing is = inl (refl, is)
one_meant numbers bytes (told c raw) is = inr (inl (c, raw, refl, is))
one_meant numbers bytes bad is = inr (inr (refl, is.0, is.1))

pub same_meaning : (numbers : ℕ) (bytes : List ℕ) (meaning other : Meaning) → numbers ≤ 2 ^ 64 → Means numbers bytes meaning → Means numbers bytes other → meaning ≡ other
same_meaning numbers bytes meaning other few is js =
    one_of nothing bad told IsTextOf numbers bytes few same_raw meaning other (one_meant numbers bytes meaning is) (one_meant numbers bytes other js)
