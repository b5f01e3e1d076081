-- A command changes what the number that it names has logged, and no other's.
use Rattle.std.proofs.Common.{◌≡◌, ℕ, Bool, true, false, cond, List, refl, ap}
use Rattle.std.specs.Prelude.{Option, None}
use Rattle.std.proofs.lemmas.Bool.{ne_eqb}
use Rattle.eaw_face.specs.State.{Logs, with_log, is_one_of, with_each}
use Rattle.eaw_face.specs.Command.{Command, log_write, log_edit, commit, commit_group, abort, nested_top, partial_abort, atomic_write, log_read, read, ranges_after}
use Rattle.eaw_face.specs.Causes.{IsNumberOf}

pub with_log_other : {A : Type 0} (logs : Logs A) (t : ℕ) (log : Option (List A)) (u : ℕ) → (u ≡ t → ⊥) → with_log logs t log u ≡ logs u
with_log_other logs t log u ne = ap (λ (b : Bool). cond b log (logs u)) (ne_eqb u t ne)

pub with_each_other : {A : Type 0} (f : ℕ → A) (ts : List ℕ) (x : A) (u : ℕ) → (is_one_of ts u ≡ true → ⊥) → with_each f ts x u ≡ f u
with_each_other {A} f ts x u other = go (is_one_of ts u) other
  where
    go : (b : Bool) → (b ≡ true → ⊥) → cond b x (f u) ≡ f u
    go true other = absurd (other refl)
    go false other = refl

pub others_after : (command : Command) (ranges : Logs (ℕ × ℕ)) (u : ℕ) → (IsNumberOf command u → ⊥) → ranges_after command ranges u ≡ ranges u
others_after (log_write t addr bytes) ranges u other = with_log_other ranges t _ u other
others_after (log_edit t pos at bytes) ranges u other = refl
others_after (commit t) ranges u other = with_log_other ranges t _ u other
others_after (commit_group ts) ranges u other = with_each_other ranges ts None u other
others_after (abort t) ranges u other = with_log_other ranges t _ u other
others_after (nested_top t offset) ranges u other = with_log_other ranges t _ u other
others_after (partial_abort t offset) ranges u other = with_log_other ranges t _ u other
others_after (atomic_write t addr bytes) ranges u other = refl
others_after (log_read t) ranges u other = refl
others_after (read addr len) ranges u other = refl
