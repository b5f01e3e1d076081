-- Texts of commands, and texts of no command.
use Rattle.std.proofs.Common.{◌≡◌, ℕ, ◌^◌, ◌<◌, ◌≤◌, List, ◌∷◌, ◌++◌, refl, sym, ap, subst, ◌∙◌}
use Rattle.std.specs.Prelude.{codes}
use Rattle.std.specs.Fmt.{decimal}
use Rattle.eaw_face.specs.Command.{log_write, log_edit, commit, commit_group, abort, nested_top, partial_abort, atomic_write, log_read, read}
use Rattle.script_text.specs.HexText.{hex_of, IsHex}
use Rattle.script_text.specs.Eaw.{Raw, does, read_log, log_len, held, IsTextOf}

-- a front, a number, a space and bytes as text, expressed by those bytes
pub write_told : (front text hex : List ℕ) (addr : ℕ) (is : IsHex hex) → text ≡ front ++ (decimal addr ++ 32 ∷ hex) → text ≡ front ++ (decimal addr ++ 32 ∷ hex_of is.0)
write_told front text hex addr is e = e ∙ ap (λ h. front ++ (decimal addr ++ 32 ∷ h)) is.2

-- the same with a place in the part
pub edit_told : (text hex : List ℕ) (pos place : ℕ) (is : IsHex hex) → text ≡ codes "editlog " ++ (decimal pos ++ 32 ∷ (decimal place ++ 32 ∷ hex))
    → text ≡ codes "editlog " ++ (decimal pos ++ 32 ∷ (decimal place ++ 32 ∷ hex_of is.0))
edit_told text hex pos place is e = e ∙ ap (λ h. codes "editlog " ++ (decimal pos ++ 32 ∷ (decimal place ++ 32 ∷ h))) is.2

-- bytes that no reader of a verb reads
pub record IsUnread (text : List ℕ) : Type 0 where
  pub commit : text ≡ codes "commit" → ⊥
  pub abort : text ≡ codes "abort" → ⊥
  pub log_len : text ≡ codes "loglen" → ⊥
  pub log_write : (p : ℕ × List ℕ) → (p.0 < 2 ^ 32) × IsHex p.1 → text ≡ codes "logwrite " ++ (decimal p.0 ++ 32 ∷ p.1) → ⊥
  pub atomic : (p : ℕ × List ℕ) → (p.0 < 2 ^ 32) × IsHex p.1 → text ≡ codes "atomic " ++ (decimal p.0 ++ 32 ∷ p.1) → ⊥
  pub edit_log : (p : ℕ × ℕ × List ℕ) → (p.0 < 2 ^ 32) × (p.1 < 2 ^ 32) × IsHex p.2 → text ≡ codes "editlog " ++ (decimal p.0 ++ 32 ∷ (decimal p.1 ++ 32 ∷ p.2)) → ⊥
  pub nested : (n : ℕ) → n < 2 ^ 32 → text ≡ codes "nested " ++ decimal n → ⊥
  pub partial : (n : ℕ) → n < 2 ^ 32 → text ≡ codes "partial " ++ decimal n → ⊥
  pub read_log : (n : ℕ) → n < 2 ^ 32 → text ≡ codes "readlog " ++ decimal n → ⊥
  pub read : (p : ℕ × ℕ) → (p.0 < 2 ^ 32) × (1 ≤ p.1) × (p.1 ≤ 1024) → text ≡ codes "read " ++ (decimal p.0 ++ 32 ∷ decimal p.1) → ⊥
  pub held : (g : ℕ) → g < 8 → text ≡ codes "held " ++ decimal g → ⊥

-- such bytes are the text of no command
pub no_command : (text : List ℕ) → IsUnread text → (t : ℕ) (raw : Raw) → IsTextOf t raw text → ⊥
no_command text none t (does (log_write u addr bytes)) is = none.log_write (addr, hex_of bytes) (is.1, (bytes, is.2, refl)) is.3
no_command text none t (does (commit u)) is = none.commit is.1
no_command text none t (does (commit_group us)) is = is
no_command text none t (does (abort u)) is = none.abort is.1
no_command text none t (does (nested_top u offset)) is = none.nested offset is.1 is.2
no_command text none t (does (partial_abort u offset)) is = none.partial offset is.1 is.2
no_command text none t (does (atomic_write u addr bytes)) is = none.atomic (addr, hex_of bytes) (is.1, (bytes, is.2, refl)) is.3
no_command text none t (does (log_edit u pos place bytes)) is = none.edit_log (pos, place, hex_of bytes) (is.1, is.2, (bytes, is.3, refl)) is.4
no_command text none t (does (log_read u)) is = is
no_command text none t (does (read addr len)) is = none.read (addr, len) (is.0, is.1, is.2) is.3
no_command text none t (read_log pos) is = none.read_log pos is.0 is.1
no_command text none t log_len is = none.log_len is
no_command text none t (held logger) is = none.held logger is.0 is.1

pub text_behind : (t : ℕ) (raw : Raw) (rest text : List ℕ) → rest ≡ text → IsTextOf t raw text → IsTextOf t raw rest
text_behind t raw rest text same is = subst (IsTextOf t raw) (sym same) is
