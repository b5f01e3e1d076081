-- What a write-back and a commit make of queue and entries together.
use Rattle.std.proofs.Common.{◌≡◌, ℕ, suc, ◌-◌, ◌^◌, ◌<◌, ◌≤◌, Bool, true, false, cond, ◌&&◌, ◌||◌, nat_eq, nat_lt, inl, inr, List, [], ◌∷◌, ◌++◌, length, take, drop, refl, sym, ◌∙◌, ap, subst, arith}
use Rattle.std.specs.Prelude.{All}
use Rattle.std.proofs.lemmas.Bool.{cases_Bool, cond-false, cond_both, eqb-true, lt-ltb, ne_eqb}
use Rattle.pcm_media.specs.Images.{Content}
use Rattle.pcm_media.proofs.Left.{left_as_read}
use Rattle.array_shape.specs.declared.shape.Shape.{Shape}
use Rattle.array_shape.specs.Logged.{applied, ranges_of}
use Rattle.array_shape.specs.NumberSet.{has}
use Rattle.row_bytes.specs.declared.ballot.Ballot.{Ballot}
use Rattle.array_image.specs.Image.{data_of}
use Rattle.array_image.specs.Standing.{SameCells}
use Rattle.array_image.proofs.Data.{length-data_of}
use Rattle.coordinator.specs.declared.cells.Cells.{Cells}
use Rattle.write_back.specs.declared.entry.Entry.{Entry}
use Rattle.write_back.specs.declared.deferred.DeferredParts.{DeferredParts}
use Rattle.write_back.specs.Entries.{AreHeld, IsEntry, parts_in, ranges_in}
use Rattle.write_back.specs.Shown.{entries_of, shape_of}
use Rattle.write_back.specs.Turns.{has_some, parts_in_turn}
use Rattle.write_back.proofs.EntryParts.{parts_in_same, same_if_all}
use Rattle.write_back.proofs.Queueing.{queue_laid}
use Rattle.write_back.specs.declared.queue.LateCommits.{LateCommits}
use Rattle.write_back.specs.Orders.{IsFree, behind, due_for, due_for_place, last_order, shares, with_one_more}
use Rattle.write_back.specs.Waiting.{AreWaiting, data_with, queue_of}
use Rattle.write_back.specs.Tied.{AreTied, Forgets, HasNamed}
use Rattle.write_back.proofs.Tying.{added, ballots_of, commits_have_cells, dropped, free_lacks, lacks_drop, lacks_take, named_same}

-- at most as many are due as wait
pub due_few : (group : ℕ) (bs : List Ballot) → due_for group bs ≤ length bs
due_few group [] = omega arith
due_few group (b ∷ bs) = by (shares group b || nat_lt 0 (due_for group bs)) (due_few group bs)
  where
    by : (s : Bool) → due_for group bs ≤ length bs → cond s (suc (due_for group bs)) 0 ≤ suc (length bs)
    by true few = omega (arith, few)
    by false few = omega arith

pub place_few : (depth : ℕ) (bs : List Ballot) → 0 < depth → due_for_place depth bs ≤ length bs
place_few depth bs may =
    cond_both (nat_eq (last_order bs) (2 ^ 16 - 1)) (length bs) (cond (nat_eq (length bs) depth) 1 0) (λ n. n ≤ length bs) (λ last. omega arith)
    (λ more. cond_both (nat_eq (length bs) depth) 1 0 (λ n. n ≤ length bs) (λ full. omega (arith, may, eqb-true (length bs) depth full)) (λ room. omega arith))

-- what is tied once the first ones are written back
pub returned : (shape : Shape) (cells cells' : List Cells) (old new : ℕ → List Entry) (n due : ℕ) (bs seen now : List Ballot) → n ≡ due → seen ≡ bs → now ≡ drop due bs → cells' ≡ cells → AreTied shape cells old bs (λ t. false) → Forgets shape (take n seen) old new → AreTied shape cells' new now (λ t. false)
returned shape cells cells' old new n due bs seen now n_is seen_is now_is table tied forgets =
    subst (λ (p : List Cells × List Ballot). AreTied shape p.0 new p.1 (λ t. false)) (λ i. (sym table i, sym now_is i))
    (dropped shape cells old new due bs (λ t. false) tied (subst (λ (l : List Ballot). Forgets shape l old new) (λ i. take (n_is i) (seen_is i)) forgets))

-- the data with the parts of all entries is the data with the queue
pub read_whole : (shape : Shape) (late : LateCommits) (parts : DeferredParts) → shape_of parts ≡ shape → AreTied shape late.cells (entries_of parts) late.ballots.items (λ t. false) → (now : Content) → AreWaiting shape late now → AreHeld shape now.bytes (entries_of parts)
    → (seen : List Ballot) → seen ≡ late.ballots.items → applied (parts_in_turn (shape_of parts) now.bytes (entries_of parts) seen) (data_of (shape_of parts) now.bytes) ≡ data_with shape late now.bytes
read_whole shape late parts shape_is tied now waiting held seen seen_is =
    let rests = waiting now.bytes (left_as_read now) in
    (λ i. applied (parts_in_turn (shape_is i) now.bytes (entries_of parts) (seen_is i)) (data_of (shape_is i) now.bytes))
    ∙ ap (λ (bs : List Ballot). applied (parts_in_turn shape now.bytes (entries_of parts) bs) (data_of shape now.bytes)) (sym (ballots_of shape now.bytes late.cells late.ballots.items))
    ∙ queue_laid shape now.bytes rests.holds.queued.long (entries_of parts) held (λ t lt. subst (λ (s : Shape). All (IsEntry s) (entries_of parts t)) shape_is (parts.kept.entries t)) (queue_of shape now.bytes late) (data_of shape now.bytes)
    rests.holds.queued.written (commits_have_cells shape now.bytes late.cells (entries_of parts) late.ballots.items tied.named) (length-data_of shape now.bytes)

-- what the entries say of the cells, where some of them went and the cells stay
module _ (shape : Shape) (parts : DeferredParts) (shape_is : shape_of parts ≡ shape) (new : ℕ → List Entry) (first : List Ballot)
    (forgets : Forgets shape first (entries_of parts) new) where
  pub still_held : (before now : List ℕ) → SameCells shape before now → AreHeld shape before (entries_of parts) → AreHeld shape now new
  still_held before now same held t lt = elim (cases_Bool (has_some first t)) [
    | inl on ↦ subst (λ (es : List Entry). ranges_of (parts_in shape now t es) ≡ ranges_in es) (sym (forgets.gone t lt on)) refl
    | inr off ↦
        subst (λ (es : List Entry). ranges_of (parts_in shape now t es) ≡ ranges_in es) (sym (forgets.others t lt off))
        (ap ranges_of (parts_in_same shape before now t (entries_of parts t) (same_if_all shape before now t shape.in_range lt (entries_of parts t) same all)) ∙ held t lt)
  ]
    where
      all : All (IsEntry shape) (entries_of parts t)
      all = subst (λ (s : Shape). All (IsEntry s) (entries_of parts t)) shape_is (parts.kept.entries t)

-- one more commit, where none may wait
pub none_aside : (shape : Shape) (cells : List Cells) (entries : ℕ → List Entry) (bs : List Ballot) (depth : ℕ) (aside : ℕ → Bool) → depth ≡ 0 → AreTied shape cells entries bs (λ t. nat_lt 0 depth && aside t) → AreTied shape cells entries bs (λ t. false)
none_aside shape cells entries bs depth aside none tied =
    let unset : (λ (t : ℕ). nat_lt 0 depth && aside t) ≡ (λ (t : ℕ). false) = (λ i t. nat_lt 0 (none i) && aside t) in
    subst (λ (set : ℕ → Bool). AreTied shape cells entries bs set) unset tied

-- one more commit, once place was made for it
module _ (shape : Shape) (cells : List Cells) (old new : ℕ → List Entry) (depth : ℕ) (may : 0 < depth) (bs : List Ballot) (ballot : Ballot)
    (tied : AreTied shape cells old bs (λ t. nat_lt 0 depth && has ballot.group t)) (its : HasNamed shape cells old ballot) (apart : (t : ℕ) → has ballot.group t ≡ true → IsFree t bs)
    (forgets : Forgets shape (take (due_for_place depth bs) bs) old new) where
  abbrev left : List Ballot
  left = drop (due_for_place depth bs) bs

  pub committed : AreTied shape cells new (with_one_more depth bs ballot) (λ t. false)
  committed =
      let is : with_one_more depth bs ballot ≡ left ++ behind left ballot ∷ [] = cond-false (nat_eq depth 0) bs (left ++ behind left ballot ∷ []) (ne_eqb depth 0 (λ none. omega (arith, none, may))) in
      subst (λ (l : List Ballot). AreTied shape cells new l (λ t. false)) (sym is)
      (added shape cells new left (behind left ballot) (λ t. nat_lt 0 depth && has ballot.group t)
      (λ t. ap (λ (b : Bool). b && has ballot.group t) (lt-ltb 0 depth may))
      (dropped shape cells old new (due_for_place depth bs) bs (λ t. nat_lt 0 depth && has ballot.group t) tied forgets) (λ t so. lacks_drop (due_for_place depth bs) bs t (free_lacks bs t (apart t so)))
      (named_same shape cells cells old new (behind left ballot) (λ t lt so. forgets.others t lt (lacks_take (due_for_place depth bs) bs t (free_lacks bs t (apart t so)))) (λ g t lt lt' so. refl) its))
