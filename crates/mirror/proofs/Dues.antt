-- What numbers have logged, as the groups that are due of a commit.
use Rattle.std.proofs.Common.{◌≡◌, ℕ, Bool, false, List, [], ◌∷◌, ◌++◌, drop, refl, sym, ◌∙◌, ap}
use Rattle.std.specs.Prelude.{IsTrue, All, map, flat_map, None}
use Rattle.std.proofs.lemmas.List.{map-append, drop-map}
use Rattle.std.proofs.lemmas.List.Elements.{All-nil, All-cons, All-head, All-tail}
use Rattle.array_shape.specs.Parts.{parts_of_write}
use Rattle.array_shape.specs.Logged.{Part, ranges_of}
use Rattle.mirror.specs.Log.{Log}
use Rattle.mirror.specs.Log.{log_at}
use Rattle.eaw_face.specs.State.{Logs, listed}
use Rattle.eaw_face.specs.StoreView.{StoreView}
use Rattle.eaw_face.specs.Command.{commit, commit_group, nested_top, atomic_write}
use Rattle.eaw_face.specs.Causes.{known}
use Rattle.eaw_face.specs.Frame.{Group}
use Rattle.eaw_face.specs.Due.{entry, AreDue}
use Rattle.mirror.specs.Sending.{group_of}
use Rattle.mirror.specs.Groups.{groups_of}
use Rattle.mirror.specs.Mirroring.{IsCopy, AreCopies}

abbrev as_group : ℕ × List Part → Group
as_group e = record { number = e.0; parts = e.1 }

abbrev outline : Group → ℕ × List (ℕ × ℕ)
outline g = (g.number, ranges_of g.parts)

-- one number
grouped : (t : ℕ) (ps : List Part) → group_of t ps ≡ map as_group (entry t ps)
grouped t [] = refl
grouped t (p ∷ ps) = refl

outlined : (t : ℕ) (ps : List Part) → map outline (group_of t ps) ≡ entry t (ranges_of ps)
outlined t [] = refl
outlined t (p ∷ ps) = refl

ranges-drop : (n : ℕ) (ps : List Part) → ranges_of (drop n ps) ≡ drop n (ranges_of ps)
ranges-drop n ps = sym (drop-map _ n ps)

module _ (tells : Bool) (store : StoreView) (t : ℕ) (ps : List Part) (copy : IsCopy tells store t ps) where
  -- the log of a number from an offset on
  pub tail_due : (offset : ℕ) → AreDue tells (nested_top t offset) store (group_of t (drop offset ps))
  tail_due offset = record {
    parts = λ told. grouped t (drop offset ps) ∙ ap (λ (qs : List Part). map as_group (entry t (drop offset qs))) (copy.parts_are told);
    ranges = outlined t (drop offset ps) ∙ ap (entry t) (ranges-drop offset ps) ∙ ap (λ (rs : List (ℕ × ℕ)). entry t (drop offset rs)) copy.ranges;
  }

  -- all of it
  pub log_due : AreDue tells (commit t) store (group_of t (drop 0 ps))
  log_due = let due = tail_due 0 in record { parts = due.parts; ranges = due.ranges }

-- a write that commits by itself
pub write_due : (tells : Bool) (store : StoreView) (t addr : ℕ) (bytes : List ℕ) (ps : List Part) → ps ≡ parts_of_write addr bytes → AreDue tells (atomic_write t addr bytes) store (group_of t ps)
write_due tells store t addr bytes ps are = record {
  parts = λ told. grouped t ps ∙ ap (λ (qs : List Part). map as_group (entry t qs)) are;
  ranges = outlined t ps ∙ ap (λ (qs : List Part). entry t (ranges_of qs)) are;
}

-- several numbers
module _ (logs : List Log) where
  all_grouped : (state : Logs Part) (ts : List ℕ) → All (λ t. (log_at logs t).parts ≡ listed (state t)) ts → groups_of logs ts ≡ map as_group (flat_map (λ t. entry t (listed (state t))) ts)
  all_grouped state [] are = refl
  all_grouped state (t ∷ ts) are =
      (λ i. (grouped t (log_at logs t).parts ∙ ap (λ (qs : List Part). map as_group (entry t qs)) (All-head (λ u. (log_at logs u).parts ≡ listed (state u)) t ts are)) i
      ++ all_grouped state ts (All-tail (λ u. (log_at logs u).parts ≡ listed (state u)) t ts are) i)
      ∙ sym (map-append as_group (entry t (listed (state t))) (flat_map (λ u. entry u (listed (state u))) ts))

  all_outlined : (ranges : Logs (ℕ × ℕ)) (ts : List ℕ) → All (λ t. ranges_of (log_at logs t).parts ≡ listed (ranges t)) ts → map outline (groups_of logs ts) ≡ flat_map (λ t. entry t (listed (ranges t))) ts
  all_outlined ranges [] are = refl
  all_outlined ranges (t ∷ ts) are =
      map-append outline (group_of t (log_at logs t).parts) (groups_of logs ts)
      ∙ (λ i. (outlined t (log_at logs t).parts ∙ ap (entry t) (All-head (λ u. ranges_of (log_at logs u).parts ≡ listed (ranges u)) t ts are)) i
      ++ all_outlined ranges ts (All-tail (λ u. ranges_of (log_at logs u).parts ≡ listed (ranges u)) t ts are) i)

  module _ (tells : Bool) (store : StoreView) (copies : AreCopies tells store logs) (alive : store.is_dead ≡ false) where
    all_are : (P : ℕ → Type 0) → ((t : ℕ) → IsCopy tells store t (log_at logs t).parts → P t) → (ts : List ℕ) → known store (commit_group ts) None → All P ts
    all_are P of [] live = All-nil P
    all_are P of (t ∷ ts) live = All-cons P t ts (of t (copies.copies alive t live.0.small)) (all_are P of ts live.1)

    pub group_due : (ts : List ℕ) → known store (commit_group ts) None → AreDue tells (commit_group ts) store (groups_of logs ts)
    group_due ts live = record {
      parts = λ told. all_grouped store.state.logs ts (all_are (λ t. (log_at logs t).parts ≡ listed (store.state.logs t)) (λ t copy. copy.parts_are told) ts live);
      ranges = all_outlined store.ranges ts (all_are (λ t. ranges_of (log_at logs t).parts ≡ listed (store.ranges t)) (λ t copy. copy.ranges) ts live);
    }
