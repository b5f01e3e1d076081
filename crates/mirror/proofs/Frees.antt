-- The logs of a group of numbers are freed, one after another.
use Rattle.std.proofs.Common.{◌≡◌, ℕ, ◌<◌, Bool, true, false, ◌||◌, nat_eq, List, [], ◌∷◌, length, get_or, set, refl, sym, ◌∙◌, ap, subst}
use Rattle.std.proofs.lemmas.Bool.{false≢true, eqb-true, eq-eqb}
use Rattle.eaw_face.specs.State.{is_one_of}
use Rattle.mirror.specs.Log.{Log}
use Rattle.mirror.specs.Log.{log_at}
use Rattle.mirror.proofs.Parts.{log_is}
use Rattle.mirror.specs.Mirroring.{IsFreed}
use Rattle.mirror.proofs.Copies.{log_here, log_there}

-- where a loop stands that frees these numbers, of which some are left: what became of the log of number t
pub record FreesOn (all left : List ℕ) (t : ℕ) (old now : Log) : Type 0 where
  pub room : now.room ≡ old.room
  pub among : is_one_of left t ≡ true → is_one_of all t ≡ true
  pub there : is_one_of all t ≡ false → now.parts ≡ old.parts
  pub gone : is_one_of all t ≡ true → is_one_of left t ≡ false → now.parts ≡ []

pub frees_start : (all : List ℕ) (t : ℕ) (log : Log) → FreesOn all all t log log
frees_start all t log = record { room = refl; among = λ is. is; there = λ out. refl; gone = λ is not. absurd (false≢true (sym not ∙ is)) }

pub frees_end : (all left : List ℕ) (t : ℕ) (old now : Log) → left ≡ [] → FreesOn all left t old now → IsFreed all t old now
frees_end all left t old now is on = record { room = on.room; here = λ in_all. on.gone in_all (ap (λ (ts : List ℕ). is_one_of ts t) is); there = on.there }

module _ (all left : List ℕ) (u : ℕ) (rest : List ℕ) (is : left ≡ u ∷ rest) (first logs : List Log) (lt : u < length logs) (n : ℕ) (n_is : n ≡ u) (log freed : Log) (read : log ≡ get_or logs n log) (free : freed ≡ record { is_live = false; parts = []; room = log.room }) where
  pub frees_step : (t : ℕ) → FreesOn all left t (log_at first t) (log_at logs t) → FreesOn all rest t (log_at first t) (log_at (set logs n freed) t)
  frees_step t on = subst (λ (k : ℕ). FreesOn all rest t (log_at first t) (log_at (set logs k freed) t)) (sym n_is) (go (nat_eq t u) refl)
    where
      one : is_one_of left t ≡ (nat_eq t u || is_one_of rest t)
      one = ap (λ (ts : List ℕ). is_one_of ts t) is

      go : (b : Bool) → nat_eq t u ≡ b → FreesOn all rest t (log_at first t) (log_at (set logs u freed) t)
      go true same =
          let t_is = eqb-true t u same in
          let now : log_at (set logs u freed) t ≡ freed = ap (log_at (set logs u freed)) t_is ∙ log_here logs u freed lt in
          let before : log.room ≡ (log_at logs t).room = ap (λ (l : Log). l.room) (log_is logs u n log lt n_is read) ∙ ap (λ (k : ℕ). (log_at logs k).room) (sym t_is) in
          let here : is_one_of left t ≡ true = one ∙ ap (λ (b : Bool). b || is_one_of rest t) same in
          subst (λ (l : Log). FreesOn all rest t (log_at first t) l) (sym (now ∙ free)) (record {
            room = before ∙ on.room;
            among = λ later. on.among here;
            there = λ out. absurd (false≢true (sym out ∙ on.among here));
            gone = λ in_all not. refl;
          })
      go false other =
          let ne : t ≡ u → ⊥ = λ e. absurd (cc (sym other ∙ eq-eqb t u e)) in
          let same : is_one_of left t ≡ is_one_of rest t = one ∙ ap (λ (b : Bool). b || is_one_of rest t) other in
          subst (λ (l : Log). FreesOn all rest t (log_at first t) l) (sym (log_there logs u freed lt t ne)) (record {
            room = on.room;
            among = λ later. on.among (same ∙ later);
            there = on.there;
            gone = λ in_all not. on.gone in_all (same ∙ not);
          })
