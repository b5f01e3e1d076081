-- A removal as a whole, from what its steps give.
use Rattle.std.proofs.Common.{◌≡◌, ℕ, ◌*◌, ◌^◌, ◌<◌, ◌≤◌, Bool, true, false, List, [], ◌∷◌, length, Some, ap, Result, Ok, Err, refl, sym, ◌∙◌, subst, arith}
use Rattle.std.specs.Prelude.{IsTrue}
use Rattle.array_shape.specs.declared.shape.Shape.{Shape}
use Rattle.array_shape.specs.Places.{data_len}
use Rattle.eaw_face.specs.Causes.{IsAlive}
use Rattle.record_slots.specs.Places.{version_of}
use Rattle.record_slots.specs.declared.free.Free.{Free}
use Rattle.record_slots.specs.declared.super_page.Super.{Super}
use Rattle.page_store.specs.Index.{IsTable, index_pages_of}
use Rattle.page_store.specs.Pairs.{Pair, found}
use Rattle.page_store.specs.Removes.{HasAbsent, Removes}
use Rattle.page_store.specs.Shown.{PagesView}
use Rattle.page_store.specs.Works.{removal_actions}
use Rattle.page_store.specs.declared.fault.PageFault.{PageFault}
use Rattle.page_store.specs.declared.fault.PageFault.TheVariants.{Damaged}
use Rattle.index_pages.specs.Acts.{Acts}
use Rattle.index_pages.specs.Giving.{MayGive, GivesSlot, removing_pages, removing_parts}
use Rattle.index_pages.proofs.Even.{halves, halves_few}
use Rattle.index_pages.proofs.Looking.{looks_none}
use Rattle.index_pages.proofs.Removals.{removes_none, removes_damaged, removes_done, removes_act_err}
use Rattle.key_list.specs.Chain.{IsSoundChain}
use Rattle.key_list.specs.Index.{chain, chain_removal, keeps_last}
use Rattle.key_list.proofs.Spending.{acted}
use Rattle.key_list.specs.Located.{IsLocated, Locates}
use Rattle.key_list.proofs.Data.{removing_loses, removing_at, staying_none, key_there, slot_may}

module _ (tells : Bool) (E : Shape → List ℕ → List ℕ → Type 0) (t root table key : ℕ) (v0 : PagesView) (fits : key < 2 ^ 64) (sound : IsTrue tells → IsSoundChain v0.store.state.bytes)
    (named : IsTrue tells → IsTable v0.store.state.bytes table root) (lists : IsTrue tells → version_of v0.store.state.bytes ≡ 2) (absent : IsTrue tells → HasAbsent chain root table key v0.store.state.bytes)
    (long : IsTrue tells → length v0.store.state.bytes ≡ data_len v0.store.shape) (alive : IsAlive v0.store) (front : Super) (page link : ℕ) (pairs : List Pair)
    (loc : IsLocated v0.store.shape front page link pairs) (said : IsTrue tells → Locates v0.store.state.bytes root key front page link pairs) where
  -- the page keeps its last pair
  pub pair_stays : keeps_last root page link (length pairs) ≡ true → (let r : Result Bool PageFault = Ok false in Removes tells (E v0.store.shape) chain t root key v0 v0 r)
  pair_stays keeps = removes_none tells (E v0.store.shape) chain t root key v0 v0 (looks_none tells (E v0.store.shape) v0) alive
      (λ told. staying_none v0.store.shape v0.store.state.bytes (index_pages_of v0.store.shape) (long told) refl (halves v0.store.shape) (halves_few v0.store.shape) root table front page link pairs key fits loc (sound told) (named told) (said told) keeps)

  -- then no action is due
  pub made_none : keeps_last root page link (length pairs) ≡ true → IsTrue tells → removal_actions (chain_removal v0.store.state.bytes root key) ≡ []
  made_none keeps told = ap removal_actions
      (staying_none v0.store.shape v0.store.state.bytes (index_pages_of v0.store.shape) (long told) refl (halves v0.store.shape) (halves_few v0.store.shape) root table front page link pairs key fits loc (sound told) (named told) (said told) keeps)

  -- what is so of the key's slot over a store that tells its data
  there : (told : IsTrue tells) → (slot : ℕ) × (found pairs key ≡ Some slot) × (slot < 8 * index_pages_of v0.store.shape) × MayGive front.version slot front.next_slot front.free_slots
  there told =
      let a = absent told in
      let at = key_there v0.store.shape v0.store.state.bytes (index_pages_of v0.store.shape) (long told) refl (halves v0.store.shape) (halves_few v0.store.shape) root table front page link pairs key fits loc (sound told) (named told) (said told) a.0 a.1 in
      let may = slot_may v0.store.shape v0.store.state.bytes (index_pages_of v0.store.shape) (long told) refl (halves v0.store.shape) (halves_few v0.store.shape) root table front page link pairs key fits loc (sound told) (named told) (said told) a.0 (lists told) a.1 in
      (a.0, at, may.0, may.1)

  -- its slot is not there
  pub slot_missing : (bad slots : ℕ) → slots ≡ 8 * index_pages_of v0.store.shape → ((slot : ℕ) → found pairs key ≡ Some slot → slots ≤ slot)
      → (let r : Result Bool PageFault = Err (Damaged bad) in Removes tells (E v0.store.shape) chain t root key v0 v0 r)
  slot_missing bad slots all none = removes_damaged tells (E v0.store.shape) chain t root key v0 v0 bad (looks_none tells (E v0.store.shape) v0) alive
      (λ told. let a = there told in omega (arith, none a.0 a.1, a.2, all))

  -- its slot cannot be given back
  pub slot_refused : (bad slot : ℕ) → found pairs key ≡ Some slot → ¬ MayGive front.version slot front.next_slot front.free_slots
      → (let r : Result Bool PageFault = Err (Damaged bad) in Removes tells (E v0.store.shape) chain t root key v0 v0 r)
  slot_refused bad slot is not = removes_damaged tells (E v0.store.shape) chain t root key v0 v0 bad (looks_none tells (E v0.store.shape) v0) alive
      (λ told.
      let a = there told in
      let same : a.0 ≡ slot = (let e : Some a.0 ≡ Some slot = sym a.1 ∙ is in cc) in
      not (subst (λ (s : ℕ). MayGive front.version s front.next_slot front.free_slots) same a.3))

  module _ (slot number : ℕ) (is : found pairs key ≡ Some slot) (free : Free) (after : Super) (number_is : number ≡ slot) (gives' : GivesSlot front slot free after)
      (goes : keeps_last root page link (length pairs) ≡ false) where
    gives : GivesSlot front number free after
    gives = subst (λ (s : ℕ). GivesSlot front s free after) (sym number_is) gives'

    is' : found pairs key ≡ Some number
    is' = subst (λ (s : ℕ). found pairs key ≡ Some s) (sym number_is) is

    -- the action that is due
    pub made_removing : IsTrue tells → acted (removing_pages (index_pages_of v0.store.shape) number page) 0 ∷ [] ≡ removal_actions (chain_removal v0.store.state.bytes root key)
    made_removing told =
        ap removal_actions
        (sym (removing_at v0.store.shape v0.store.state.bytes (index_pages_of v0.store.shape) (long told) refl (halves v0.store.shape) (halves_few v0.store.shape) root table front page link pairs key fits loc (sound told) (named told) (said told) number free after gives goes is'))

    -- the pair is taken out
    pub pair_gone : (v1 : PagesView) → (let r : Result (Unit {0}) PageFault = Ok tt in
        Acts tells (E v0.store.shape) t (removing_pages (index_pages_of v0.store.shape) number page) (removing_parts (index_pages_of v0.store.shape) after number free page link pairs key) v0 v1 r)
        → (let r : Result Bool PageFault = Ok true in Removes tells (E v0.store.shape) chain t root key v0 v1 r)
    pair_gone v1 acts =
        removes_done tells (E v0.store.shape) chain t root key v0 v1 (removing_pages (index_pages_of v0.store.shape) number page) (removing_parts (index_pages_of v0.store.shape) after number free page link pairs key) alive (omega arith)
        (λ told. removing_at v0.store.shape v0.store.state.bytes (index_pages_of v0.store.shape) (long told) refl (halves v0.store.shape) (halves_few v0.store.shape) root table front page link pairs key fits loc (sound told) (named told) (said told) number free after gives goes is')
        (λ told. removing_loses v0.store.shape v0.store.state.bytes (index_pages_of v0.store.shape) (long told) refl (halves v0.store.shape) (halves_few v0.store.shape) root table front page link pairs key fits loc (sound told) (named told) (said told) number free after gives goes is')
        acts

    -- the action was refused
    pub action_refused : (v1 : PagesView) (fault : PageFault) → (let r : Result (Unit {0}) PageFault = Err fault in
        Acts tells (E v0.store.shape) t (removing_pages (index_pages_of v0.store.shape) number page) (removing_parts (index_pages_of v0.store.shape) after number free page link pairs key) v0 v1 r)
        → (let r : Result Bool PageFault = Err fault in Removes tells (E v0.store.shape) chain t root key v0 v1 r)
    action_refused v1 fault acts =
        removes_act_err tells (E v0.store.shape) chain t root key v0 v1 (removing_pages (index_pages_of v0.store.shape) number page) (removing_parts (index_pages_of v0.store.shape) after number free page link pairs key) alive (omega arith)
        (λ told. removing_at v0.store.shape v0.store.state.bytes (index_pages_of v0.store.shape) (long told) refl (halves v0.store.shape) (halves_few v0.store.shape) root table front page link pairs key fits loc (sound told) (named told) (said told) number free after gives goes is')
        (λ told. removing_loses v0.store.shape v0.store.state.bytes (index_pages_of v0.store.shape) (long told) refl (halves v0.store.shape) (halves_few v0.store.shape) root table front page link pairs key fits loc (sound told) (named told) (said told) number free after gives goes is')
        fault acts
