-- The test of a pair of a chain and of its pages, and what it owes of pages.
use Rattle.std.proofs.Common.{◌≡◌, ◌≢◌, ℕ, zero, suc, ◌+◌, ◌-◌, ◌<◌, ◌≤◌, ◌⊎◌, true, false, nat_eq, inl, inr, Bool, List, [], ◌∷◌, ◌++◌, None, Option, Result, Ok, Err, refl, sym, ◌∙◌, ap, subst, arith}
use Rattle.std.proofs.lemmas.List.{append_assoc}
use Rattle.std.specs.Prelude.{IfSome}
use Rattle.std.proofs.lemmas.Bool.Decides.{eqb_tells}
use Rattle.array_shape.specs.declared.shape.Shape.{Shape}
use Rattle.eaw_face.specs.Command.{Command}
use Rattle.eaw_face.specs.StoreView.{StoreView}
use Rattle.record_slots.specs.declared.super_page.Super.{Super}
use Rattle.page_store.specs.Course.{Reading}
use Rattle.page_store.specs.Index.{index_pages_of}
use Rattle.page_store.specs.Looks.{IsStill}
use Rattle.page_store.specs.Pairs.{Pair}
use Rattle.page_store.specs.Tested.{Excerpt, Outcome, Plan, at_end, holding, reading, in_turn, Brings, passes, stops, outcome_of}
use Rattle.page_store.specs.declared.index_fault.CheckFault.{CheckFault}
use Rattle.page_store.specs.declared.index_fault.CheckFault.TheVariants.{Damaged, Media, Dead, NoMemory}
use Rattle.index_pages.specs.Page.{link_said, pairs_said}
use Rattle.index_pages.specs.Plans.{Tries, held_of, slot_plan, whether}
use Rattle.index_pages.specs.declared.held.HeldPage.{HeldPage}
use Rattle.index_pages.proofs.Trying.{SoFar, Owns, bytes_then, failed_as, brought_as, fault_stays, slot_on, slot_same, owns_end, owns_holding, owns_reading, owns_turn, owns_slot}
use Rattle.key_list.specs.Chain.{behind, IsChainHead}
use Rattle.key_list.specs.Tried.{pairs_plan, chain_plan_from, chain_plan}

-- a pair was tested, and passed or not
module _ (half slots table page low : ℕ) (held : Option Reading) (pair : Pair) (next : Option Reading → Plan) {tells : Bool} {calls calls_mid calls_now : Command → ℕ} {whole : Plan} {old mid new : StoreView} (still : IsStill tells old mid)
    (shape : mid.shape ≡ old.shape) (so : SoFar tells calls calls_mid (holding (low ≤ pair.0) page (slot_plan half slots table page held pair next)) whole old mid) where
  pub so_pair : {T : Type 0} (x : T) (now : HeldPage) → (let r : Result T CheckFault = Ok x in Tries tells calls_mid calls_now (holding (low ≤ pair.0) page (slot_plan half slots table page held pair (λ h. holding (h ≡ held_of now) 0 at_end))) mid new r)
      → SoFar tells calls calls_now (next (held_of now)) whole old new
  so_pair x now tries = record {
    read = so.read ++ tries.read;
    reads = bytes_then so.read tries.read still shape so.reads tries.reads;
    left = λ later outcome brings.
        subst (λ (es : List Excerpt). Brings whole es outcome) (sym (append_assoc so.read tries.read later)) (so.left (tries.read ++ later) outcome (elim tries.brings [
          | inl good ↦ inl (good.0, slot_on half slots table page held pair next now tries.read later outcome good.1 brings)
          | inr over ↦ absurd over.1
        ]));
  }

  pub so_pair_err : {T U : Type 0} (fault : CheckFault) → ((now : Option Reading) → Brings (next now) [] stops)
      → (let r : Result T CheckFault = Err fault in Tries tells calls_mid calls_now (holding (low ≤ pair.0) page (slot_plan half slots table page held pair (λ h. at_end))) mid new r) → (let r : Result U CheckFault = Err fault in Tries tells calls calls_now whole old new r)
  so_pair_err {T} {U} fault may tries = record {
    read = so.read ++ tries.read;
    reads = bytes_then so.read tries.read still shape so.reads (failed_as tells calls_mid calls_now mid new T U fault tries.read tries.reads);
    brings = so.left tries.read (let r : Result U CheckFault = Err fault in outcome_of r)
        (elim (brought_as T U fault tries.read (holding (low ≤ pair.0) page (slot_plan half slots table page held pair (λ h. at_end))) tries.brings) [
          | inl good ↦ inl (good.0, slot_same half slots table page held pair next tries.read (let r : Result U CheckFault = Err fault in outcome_of r) (fault_stays U fault) may good.1)
          | inr over ↦ inr over
        ]);
  }

pub pairs_stop : (half slots table page low : ℕ) (held : Option Reading) (ps : List Pair) → Brings (pairs_plan half slots table page low held ps) [] stops
pairs_stop half slots table page low held [] = (refl, inr refl)
pairs_stop half slots table page low held (p ∷ ps) = inr (refl, tt)

-- where the link of a page leads
abbrev pub linked : Shape → Super → (table n page low : ℕ) → List ℕ → Plan
linked shape front table n page low said =
    whether (nat_eq (link_said said) 0) at_end
    (holding ((2 ≤ link_said said) × (link_said said < front.next_page)) page (chain_plan_from shape front table n (link_said said) (behind low (pairs_said said))))

pub link_none : (shape : Shape) (front : Super) (table n page low : ℕ) (said : List ℕ) → link_said said ≡ 0 → linked shape front table n page low said ≡ at_end
link_none shape front table n page low said is = elim (eqb_tells (link_said said) 0) [ inl same ↦ rw same.0 refl | inr other ↦ absurd (other.1 is) ]

pub link_some : (shape : Shape) (front : Super) (table n page low : ℕ) (said : List ℕ) → link_said said ≢ 0
    → linked shape front table n page low said ≡ holding ((2 ≤ link_said said) × (link_said said < front.next_page)) page (chain_plan_from shape front table n (link_said said) (behind low (pairs_said said)))
link_some shape front table n page low said some = elim (eqb_tells (link_said said) 0) [ inl same ↦ absurd (some same.1) | inr other ↦ rw other.0 refl ]

owns_pairs : (Known : ℕ → Type 0) (half slots table page low : ℕ) (held : Option Reading) (ps : List Pair) → Known page → IfSome held (λ h. Known h.0) → Owns Known (pairs_plan half slots table page low held ps)
owns_pairs Known half slots table page low held [] known is = owns_end Known
owns_pairs Known half slots table page low held (p ∷ ps) known is =
    owns_holding Known _ page _ known (owns_slot Known half slots table page held p (λ now. pairs_plan half slots table page (suc p.0) now ps) known is (λ now Later more here. owns_pairs Later half slots table page (suc p.0) now ps (more page known) here))

owns_linked : (Known : ℕ → Type 0) (shape : Shape) (front : Super) (table n page low : ℕ) (said : List ℕ) → Known page → Owns Known (chain_plan_from shape front table n (link_said said) (behind low (pairs_said said)))
    → Owns Known (linked shape front table n page low said)
owns_linked Known shape front table n page low said known owns = elim (eqb_tells (link_said said) 0) [
  | inl same ↦ rw same.0 (owns_end Known)
  | inr other ↦ rw other.0 (owns_holding Known _ page _ known owns)
]

owns_from : (Known : ℕ → Type 0) (shape : Shape) (front : Super) (table n page low : ℕ) → Owns Known (chain_plan_from shape front table n page low)
owns_from Known shape front table zero page low = owns_reading Known page 0 512 _ (λ said. owns_holding _ _ page _ (inr refl) (owns_end _))
owns_from Known shape front table (suc n) page low =
    owns_reading Known page 0 512 _ (λ said. owns_holding _ _ page _ (inr refl)
    (owns_turn _ _ _ (owns_pairs _ _ _ _ page low None (pairs_said said) (inr refl) tt)
    (owns_linked (λ p. Known p ⊎ (p ≡ page)) shape front table n page low said (inr refl) (owns_from (λ p. Known p ⊎ (p ≡ page)) shape front table n (link_said said) (behind low (pairs_said said))))))

pub owns_chain : (shape : Shape) (Known : ℕ → Type 0) (front : Super) (root table : ℕ) → Owns Known (chain_plan shape front root table)
owns_chain shape Known front root table = owns_from Known shape front table front.next_page root 0
