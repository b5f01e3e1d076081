-- An insertion as a whole, from what its steps give.
use Rattle.std.proofs.Common.{◌≡◌, ℕ, suc, ◌+◌, ◌-◌, ◌^◌, ◌<◌, ◌≤◌, Bool, true, false, nat_lt, inl, inr, List, [], ◌∷◌, length, take, drop, None, Result, Ok, Err, refl, sym, ◌∙◌, ap, subst, arith}
use Rattle.std.specs.Prelude.{IsTrue}
use Rattle.std.proofs.lemmas.Bool.{cases_lt, cases_eq}
use Rattle.std.proofs.lemmas.Bool.Decides.{leb_tells, nat_tests}
use Rattle.std.proofs.lemmas.List.{length-take-le, length-drop}
use Rattle.array_shape.specs.declared.shape.Shape.{Shape}
use Rattle.array_shape.specs.Places.{data_len, page_count}
use Rattle.array_shape.specs.Logged.{applied}
use Rattle.eaw_face.specs.State.{State}
use Rattle.eaw_face.specs.Causes.{IsAlive}
use Rattle.record_slots.specs.Places.{next_slot, next_page, used_slots, used_pages, free_pages, slot_due, page_due}
use Rattle.record_slots.specs.declared.super_page.Super.{Super}
use Rattle.page_store.specs.Fits.{FitAll, IsFirstLacking}
use Rattle.page_store.specs.Index.{Action, IsTable, Grows, Rests, Gains, slots_of, index_pages_of}
use Rattle.page_store.specs.Inserts.{ActionFits, AllFit, LackRoom, MayBecome, Inserts}
use Rattle.page_store.specs.Looks.{Looks, LookCause, is_failed}
use Rattle.page_store.specs.Pairs.{Pair, found}
use Rattle.page_store.specs.Shown.{PagesView}
use Rattle.page_store.specs.declared.fault.PageFault.{PageFault}
use Rattle.page_store.specs.declared.index_fault.IndexFault.{IndexFault}
use Rattle.page_store.specs.declared.index_fault.IndexFault.TheVariants as index
use Rattle.index_pages.specs.Acts.{Acts}
use Rattle.index_pages.specs.Adding.{TakesPage, TakesSlot, adding_pages, adding_parts}
use Rattle.page_store.specs.Faults.{as_index}
use Rattle.index_pages.specs.Fetched.{IsFront}
use Rattle.index_pages.specs.Keys.{key_at}
use Rattle.index_pages.specs.Page.{page_pairs, count_of}
use Rattle.index_pages.proofs.Claims.{slots_few, pages_few, adding_at}
use Rattle.index_pages.proofs.Going.{Going, going_looks, going_act, alive_now, inserts_done, inserts_refused, inserts_look_err, inserts_act_err}
use Rattle.index_pages.proofs.Joining.{named_kept, grows_within, gains_within, joins_within}
use Rattle.index_pages.proofs.Left.{DecidesAll, all_left, one_done, fits_same, lacks_same}
use Rattle.index_pages.proofs.Lifting.{joins_same, inserts_then}
use Rattle.index_pages.proofs.Looking.{looks_none}
use Rattle.index_pages.proofs.PageFacts.{length-page_pairs}
use Rattle.index_pages.specs.Written.{AreSmall}
use Rattle.index_pages.proofs.Writing.{small_take}
use Rattle.key_list.specs.Chain.{IsSoundChain, pairs_of_chain, page_of_key}
use Rattle.key_list.specs.Index.{chain, chain_within, chain_actions, cutting}
use Rattle.index_pages.specs.Actions.{adding, half_for}
use Rattle.key_list.specs.Located.{IsLocated, Locates, cutting_pages, cutting_parts}
use Rattle.key_list.specs.Resting.{sound_chain_counts}
use Rattle.key_list.proofs.Spending.{acted}
use Rattle.key_list.proofs.Data.{adding_grows, adding_takes_none, slot_there, cutting_grows, cut_after, cut_due, cut_used, half_located, half_left}

-- nothing is left of so many
pub none_left : (free next half : ℕ) → ((free ≡ 0 → next < half) → ⊥) → (free ≡ 0) × (half ≤ next)
none_left free next half gone = elim (cases_eq free 0) [
  | inl none ↦ elim (cases_lt next half) [ inl less ↦ absurd (gone (λ e. less)) | inr most ↦ (none, most) ]
  | inr some ↦ absurd (gone (λ e. absurd (some e)))
]

-- an insertion into the chain cannot look at the data
pub look_err : (tells : Bool) (E : Shape → List ℕ → List ℕ → Type 0) (t root table key : ℕ) (v0 : PagesView) → (IsTrue tells → IsAlive v0.store → IsSoundChain v0.store.state.bytes)
    → (T : Type 0) (v1 : PagesView) (fault : PageFault) → (let r : Result T PageFault = Err fault in Looks tells (E v0.store.shape) (is_failed r) v0 v1 × LookCause tells v0.store r)
    → (let s : Result ℕ IndexFault = Err (as_index fault) in Inserts tells (E v0.store.shape) chain t root table key v0 v1 s)
look_err tells E t root table key v0 sound T v1 fault looks =
    inserts_look_err chain tells (E v0.store.shape) t root table key T v0 v0 v1 (going_looks chain tells (E v0.store.shape) t root table key v0 v0 sound (looks_none tells (E v0.store.shape) v0)) fault looks

-- no slot is left
pub slots_full : (tells : Bool) (E : Shape → List ℕ → List ℕ → Type 0) (t root table key : ℕ) (v0 v1 : PagesView) → (IsTrue tells → IsAlive v0.store → IsSoundChain v0.store.state.bytes) → Looks tells (E v0.store.shape) false v0 v1 → IsAlive v0.store
    → (slots : ℕ) → slots ≡ slots_of v0.store.shape → (front : Super) (page link : ℕ) (pairs : List Pair) → IsLocated v0.store.shape front page link pairs → (IsTrue tells → Locates v0.store.state.bytes root key front page link pairs)
    → ((front.free_slots ≡ 0 → front.next_slot < slots) → ⊥) → (let s : Result ℕ IndexFault = Err (index.SlotsFull slots) in Inserts tells (E v0.store.shape) chain t root table key v0 v1 s)
slots_full tells E t root table key v0 v1 sound looks alive slots slots_is front page link pairs loc said gone =
    let none = none_left front.free_slots front.next_slot slots gone in
    inserts_refused chain tells (E v0.store.shape) t root table key v0 v1 (going_looks chain tells (E v0.store.shape) t root table key v0 v1 sound looks) (index.SlotsFull slots)
    (refl, (alive, slots_is, λ told. omega (arith, none.0, none.1, slots_is, loc.front_is.slots, (said told).front_says.next_slot, (said told).front_says.free_slots))) (λ n e. absurd (cc))

module _ (tells : Bool) (E : Shape → List ℕ → List ℕ → Type 0) (t root table key : ℕ) (v0 : PagesView) (half : ℕ) (half_is : half ≡ index_pages_of v0.store.shape) (all : half + half ≡ page_count v0.store.shape)
    (few : half ≤ 16384) (fits : key < 2 ^ 64) (table_few : table < 8) (sound : IsTrue tells → IsSoundChain v0.store.state.bytes) (named : IsTrue tells → IsTable v0.store.state.bytes table root)
    (absent : IsTrue tells → found (pairs_of_chain v0.store.state.bytes root) key ≡ None) (long : IsTrue tells → length v0.store.state.bytes ≡ data_len v0.store.shape) (alive : IsAlive v0.store)
    (front : Super) (page link : ℕ) (pairs : List Pair) (loc : IsLocated v0.store.shape front page link pairs) (said : IsTrue tells → Locates v0.store.state.bytes root key front page link pairs)
    (slot : front.free_slots ≡ 0 → front.next_slot < slots_of v0.store.shape) where
  slot_left : IsTrue tells → used_slots v0.store.state.bytes < slots_of v0.store.shape
  slot_left told = slots_few v0.store.shape v0.store.state.bytes front loc.front_is slot (said told).front_says (sound_chain_counts v0.store.state.bytes (sound told))

  count_is : IsTrue tells → count_of v0.store.state.bytes (page_of_key v0.store.state.bytes root key) ≡ length pairs
  count_is told =
      sym (length-page_pairs v0.store.state.bytes (page_of_key v0.store.state.bytes root key)) ∙ ap (λ (x : ℕ). length (page_pairs v0.store.state.bytes x)) (sym (said told).page_is)
      ∙ ap (λ (ps : List Pair). length ps) (sym (said told).pairs_are)

  -- the page has room
  module _ (room : length pairs < 30) where
    one_action : IsTrue tells → chain_actions v0.store.state.bytes root key ≡ adding v0.store.state.bytes page ∷ []
    one_action told =
        let b : nat_lt (count_of v0.store.state.bytes (page_of_key v0.store.state.bytes root key)) 30 ≡ true = grind (arith, nat_tests, count_is told, room) in
        let at_key : chain_actions v0.store.state.bytes root key ≡ adding v0.store.state.bytes (page_of_key v0.store.state.bytes root key) ∷ [] = (rw b refl) in
        at_key ∙ ap (λ (x : ℕ). adding v0.store.state.bytes x ∷ []) (sym (said told).page_is)

    here_first : (v1 : PagesView) → Looks tells (E v0.store.shape) false v0 v1 → Going (chain_within front.next_page) tells (E v0.store.shape) t root table key v0 v1
    here_first v1 looks = going_looks (chain_within front.next_page) tells (E v0.store.shape) t root table key v0 v1 (λ told living. (sound told, omega (arith, (said told).front_says.next_page))) looks

    -- the slot cannot be taken
    pub slot_err : (T : Type 0) (v1 : PagesView) (fault : PageFault) → (let r : Result T PageFault = Err fault in Looks tells (E v0.store.shape) (is_failed r) v0 v1 × LookCause tells v0.store r)
        → (let s : Result ℕ IndexFault = Err (as_index fault) in Inserts tells (E v0.store.shape) (chain_within front.next_page) t root table key v0 v1 s)
    slot_err T v1 fault looks =
        inserts_look_err (chain_within front.next_page) tells (E v0.store.shape) t root table key T v0 v0 v1 (here_first v0 (looks_none tells (E v0.store.shape) v0)) fault looks

    module _ (v1 : PagesView) (looks : Looks tells (E v0.store.shape) false v0 v1) (after : Super) (taken : ℕ) (takes : IsTrue tells → TakesSlot v0.store.state.bytes front taken after)
        (taken_in : taken < slots_of v0.store.shape) where
      going1 : Going (chain_within front.next_page) tells (E v0.store.shape) t root table key v0 v1
      going1 = here_first v1 looks

      same1 : IsTrue tells → v1.store.state.bytes ≡ v0.store.state.bytes
      same1 told = ap (λ (s : State). s.bytes) ((looks.still refl).state told)

      data1 : IsTrue tells → Grows (chain_within front.next_page) root v0.store.state.bytes (applied (adding_parts half after taken page link pairs table key) v1.store.state.bytes)
          × Gains (chain_within front.next_page) root table key v0.store.state.bytes (applied (adding_parts half after taken page link pairs table key) v1.store.state.bytes)
      data1 told =
          let d = adding_grows v0.store.shape v0.store.state.bytes half (long told) half_is all few root table front page link pairs key fits loc (sound told) (named told) (said told) after taken (takes told) table_few room (slot_left told) (absent told) in
          let none = adding_takes_none v0.store.shape v0.store.state.bytes half (long told) half_is all few root table front page link pairs key fits loc (sound told) (named told) (said told) after taken (takes told) table_few room (slot_left told) (absent told) in
          subst (λ (b : List ℕ). Grows (chain_within front.next_page) root v0.store.state.bytes (applied (adding_parts half after taken page link pairs table key) b)
          × Gains (chain_within front.next_page) root table key v0.store.state.bytes (applied (adding_parts half after taken page link pairs table key) b)) (sym (same1 told)) (
            grows_within chain front.next_page chain_actions root v0.store.state.bytes (applied (adding_parts half after taken page link pairs table key) v0.store.state.bytes) d.0 (omega (arith, none, (said told).front_says.next_page)),
            gains_within chain front.next_page chain_actions root table key v0.store.state.bytes (applied (adding_parts half after taken page link pairs table key) v0.store.state.bytes) d.1,
          )

      may1 : IsTrue tells → IsAlive v0.store → MayBecome (chain_within front.next_page) root table key v0.store.state.bytes (applied (adding_parts half after taken page link pairs table key) v1.store.state.bytes)
      may1 told living = let d = data1 told in (d.0, inr d.1)

      add_start : (v2 : PagesView) (r : Result (Unit {0}) PageFault) → Acts tells (E v1.store.shape) t (adding_pages (index_pages_of v1.store.shape) taken page) (adding_parts (index_pages_of v1.store.shape) after taken page link pairs table key) v1 v2 r
          → Acts tells (E v0.store.shape) t (adding_pages half taken page) (adding_parts half after taken page link pairs table key) v1 v2 r
      add_start v2 r acts =
          subst (λ (n : ℕ). Acts tells (E v0.store.shape) t (adding_pages n taken page) (adding_parts n after taken page link pairs table key) v1 v2 r) (sym half_is)
          (subst (λ (s : Shape). Acts tells (E s) t (adding_pages (index_pages_of s) taken page) (adding_parts (index_pages_of s) after taken page link pairs table key) v1 v2 r) looks.shape acts)

      due_is : IsTrue tells → taken ≡ slot_due v0.store.state.bytes
      due_is told = slot_there v0.store.shape v0.store.state.bytes half (long told) half_is all few root table front page link pairs key fits loc (sound told) (named told) (said told) after taken (takes told) table_few room (slot_left told) (absent told)

      pages_are : IsTrue tells → adding_pages half taken page ≡ (adding v0.store.state.bytes page).pages
      pages_are told = adding_at v0.store.shape v0.store.state.bytes (long told) half all taken page (due_is told)

      pub made_here : IsTrue tells → acted (adding_pages (index_pages_of v1.store.shape) taken page) 0 ∷ [] ≡ chain_actions v0.store.state.bytes root key
      made_here told =
          ap (λ (n : ℕ). acted (adding_pages n taken page) 0 ∷ []) (ap index_pages_of looks.shape ∙ sym half_is)
          ∙ ap (λ (ps : List ℕ). acted ps 0 ∷ []) (pages_are told) ∙ sym (one_action told)

      -- the pair was added
      pub add_done : (v2 : PagesView) → (let r : Result (Unit {0}) PageFault = Ok tt in
          Acts tells (E v1.store.shape) t (adding_pages (index_pages_of v1.store.shape) taken page) (adding_parts (index_pages_of v1.store.shape) after taken page link pairs table key) v1 v2 r)
          → (let s : Result ℕ IndexFault = Ok taken in Inserts tells (E v0.store.shape) (chain_within front.next_page) t root table key v0 v2 s)
      add_done v2 acts' =
          let r : Result (Unit {0}) PageFault = Ok tt in
          let acts = add_start v2 r acts' in
          inserts_done (chain_within front.next_page) tells (E v0.store.shape) t root table key v0 v1 v2 going1 (adding_pages half taken page) (adding_parts half after taken page link pairs table key) may1 taken acts
          (λ told living. let d = data1 told in (due_is told, d.0, d.1)) (
            alive,
            taken_in,
            λ told. (
              slot_left told,
              subst (λ (steps : List Action). AllFit v0.store t (index_pages_of v0.store.shape - used_pages v0.store.state.bytes) steps) (sym (one_action told))
                  ((omega arith, subst (λ (ps : List ℕ). FitAll v0.store t ps) (pages_are told) (fits_same v0.store v1.store t going1.shape (going1.logs.ranges t) (adding_pages half taken page) acts.cause.1)), tt),
            ),
          )

      pub add_err : (v2 : PagesView) (fault : PageFault) → (let r : Result (Unit {0}) PageFault = Err fault in
          Acts tells (E v1.store.shape) t (adding_pages (index_pages_of v1.store.shape) taken page) (adding_parts (index_pages_of v1.store.shape) after taken page link pairs table key) v1 v2 r)
          → (let s : Result ℕ IndexFault = Err (as_index fault) in Inserts tells (E v0.store.shape) (chain_within front.next_page) t root table key v0 v2 s)
      add_err v2 fault acts' =
          let r : Result (Unit {0}) PageFault = Err fault in
          inserts_act_err (chain_within front.next_page) tells (E v0.store.shape) t root table key v0 v1 v2 going1 (adding_pages half taken page) (adding_parts half after taken page link pairs table key) may1 alive
          (λ g h n lacks. let lacks' = lacks_same v0.store v1.store t going1.shape (going1.logs.ranges t) (adding_pages half taken page) g h n lacks in (
            alive,
            (adding_pages half taken page, omega arith, lacks'),
            λ told. (
              slot_left told,
              subst (λ (steps : List Action). LackRoom v0.store t g h n (index_pages_of v0.store.shape - used_pages v0.store.state.bytes) steps) (sym (one_action told))
                  (inl (omega arith, subst (λ (ps : List ℕ). IsFirstLacking v0.store t ps g h n) (pages_are told) lacks')),
            ),
          ))
          fault (add_start v2 r acts')

  -- the page is full
  module _ (full : length pairs ≡ 30) where
    two_actions : IsTrue tells
        → chain_actions v0.store.state.bytes root key ≡ cutting v0.store.state.bytes page ∷ adding v0.store.state.bytes (half_for (page_pairs v0.store.state.bytes page) page (page_due v0.store.state.bytes 0) key) ∷ []
    two_actions told =
        let b : nat_lt (count_of v0.store.state.bytes (page_of_key v0.store.state.bytes root key)) 30 ≡ false = grind (arith, nat_tests, count_is told, full) in
        let at_key : chain_actions v0.store.state.bytes root key
        ≡ cutting v0.store.state.bytes (page_of_key v0.store.state.bytes root key)
        ∷ adding v0.store.state.bytes (half_for (page_pairs v0.store.state.bytes (page_of_key v0.store.state.bytes root key)) (page_of_key v0.store.state.bytes root key) (page_due v0.store.state.bytes 0) key) ∷ [] = (rw b refl) in
        at_key
        ∙ ap (λ (x : ℕ). cutting v0.store.state.bytes x ∷ adding v0.store.state.bytes (half_for (page_pairs v0.store.state.bytes x) x (page_due v0.store.state.bytes 0) key) ∷ []) (sym (said told).page_is)

    cut_first : (v1 : PagesView) → Looks tells (E v0.store.shape) false v0 v1 → Going chain tells (E v0.store.shape) t root table key v0 v1
    cut_first v1 looks = going_looks chain tells (E v0.store.shape) t root table key v0 v1 (λ told living. sound told) looks

    due_two : IsTrue tells → DecidesAll v0.store t (index_pages_of v0.store.shape - used_pages v0.store.state.bytes) (chain_actions v0.store.state.bytes root key) (index_pages_of v0.store.shape - used_pages v0.store.state.bytes)
        (cutting v0.store.state.bytes page ∷ adding v0.store.state.bytes (half_for (page_pairs v0.store.state.bytes page) page (page_due v0.store.state.bytes 0) key) ∷ [])
    due_two told =
        subst (λ (steps : List Action). DecidesAll v0.store t (index_pages_of v0.store.shape - used_pages v0.store.state.bytes) (chain_actions v0.store.state.bytes root key) (index_pages_of v0.store.shape - used_pages v0.store.state.bytes) steps)
        (two_actions told) (all_left v0.store t (index_pages_of v0.store.shape - used_pages v0.store.state.bytes) (chain_actions v0.store.state.bytes root key))

    -- no page is left
    pub pages_full : ((front.free_pages ≡ 0 → front.next_page < half) → ⊥) → (let s : Result ℕ IndexFault = Err (index.PagesFull (half - 1)) in Inserts tells (E v0.store.shape) chain t root table key v0 v0 s)
    pages_full gone =
        let none = none_left front.free_pages front.next_page half gone in
        inserts_refused chain tells (E v0.store.shape) t root table key v0 v0 (cut_first v0 (looks_none tells (E v0.store.shape) v0)) (index.PagesFull (half - 1)) (
          refl,
          (
            alive,
            ap (λ (n : ℕ). n - 1) half_is,
            λ told. (
              slot_left told,
              (due_two told).lack_pages (inl (omega (arith, none.0, none.1, half_is, (said told).front_says.next_page, (said told).front_says.free_pages))),
            ),
          ),
        )
        (λ n e told living. let e' : half - 1 ≡ n = cc in inl (omega (arith, none.0, none.1, (said told).front_says.next_page, (said told).front_says.free_pages, e')))

    -- the page cannot be taken
    pub page_err : (T : Type 0) (v1 : PagesView) (fault : PageFault) → (let r : Result T PageFault = Err fault in Looks tells (E v0.store.shape) (is_failed r) v0 v1 × LookCause tells v0.store r)
        → (let s : Result ℕ IndexFault = Err (as_index fault) in Inserts tells (E v0.store.shape) chain t root table key v0 v1 s)
    page_err T v1 fault looks = look_err tells E t root table key v0 (λ told living. sound told) T v1 fault looks

    module _ (left : front.free_pages ≡ 0 → front.next_page < half) (v1 : PagesView) (looks : Looks tells (E v0.store.shape) false v0 v1) (after : Super) (taken : ℕ)
        (takes : IsTrue tells → TakesPage v0.store.state.bytes front taken after) (taken_in : (2 ≤ taken) × (taken < index_pages_of v0.store.shape)) (after_is : IsFront v0.store.shape after)
        (after_slots : (after.next_slot ≡ front.next_slot) × (after.free_slots ≡ front.free_slots)) where
      going2 : Going chain tells (E v0.store.shape) t root table key v0 v1
      going2 = cut_first v1 looks

      same2 : IsTrue tells → v1.store.state.bytes ≡ v0.store.state.bytes
      same2 told = ap (λ (s : State). s.bytes) ((looks.still refl).state told)

      used_left : IsTrue tells → used_pages v0.store.state.bytes < index_pages_of v0.store.shape
      used_left told = pages_few v0.store.shape v0.store.state.bytes front loc.front_is (λ none. omega (arith, left none, half_is)) (said told).front_says (sound_chain_counts v0.store.state.bytes (sound told))

      data2 : IsTrue tells → Grows chain root v0.store.state.bytes (applied (cutting_parts after taken page link pairs) v1.store.state.bytes) × Rests chain root v0.store.state.bytes (applied (cutting_parts after taken page link pairs) v1.store.state.bytes)
      data2 told =
          subst (λ (b : List ℕ). Grows chain root v0.store.state.bytes (applied (cutting_parts after taken page link pairs) b) × Rests chain root v0.store.state.bytes (applied (cutting_parts after taken page link pairs) b)) (sym (same2 told))
          (cutting_grows v0.store.shape v0.store.state.bytes half (long told) half_is all few root table front page link pairs key fits loc (sound told) (named told) (said told) after taken (takes told) full (used_left told))

      may2 : IsTrue tells → IsAlive v0.store → MayBecome chain root table key v0.store.state.bytes (applied (cutting_parts after taken page link pairs) v1.store.state.bytes)
      may2 told living = let d = data2 told in (d.0, inl d.1)

      cut_start : (v2 : PagesView) (r : Result (Unit {0}) PageFault) → Acts tells (E v1.store.shape) t (cutting_pages taken page) (cutting_parts after taken page link pairs) v1 v2 r
          → Acts tells (E v0.store.shape) t (cutting_pages taken page) (cutting_parts after taken page link pairs) v1 v2 r
      cut_start v2 r acts = subst (λ (s : Shape). Acts tells (E s) t (cutting_pages taken page) (cutting_parts after taken page link pairs) v1 v2 r) looks.shape acts

      page_is_due : IsTrue tells → taken ≡ page_due v0.store.state.bytes 0
      page_is_due told = cut_due v0.store.shape v0.store.state.bytes half (long told) half_is all few root table front page link pairs key fits loc (sound told) (named told) (said told) after taken (takes told) full (used_left told)

      cut_pages_are : IsTrue tells → cutting_pages taken page ≡ (cutting v0.store.state.bytes page).pages
      cut_pages_are told = ap (λ (x : ℕ). page ∷ x ∷ 0 ∷ []) (page_is_due told)

      one_left : IsTrue tells → 1 ≤ index_pages_of v0.store.shape - used_pages v0.store.state.bytes
      one_left told = omega (arith, used_left told)

      -- the cut is the first of two actions
      pub made_first : IsTrue tells → acted (cutting_pages taken page) 1 ∷ adding v0.store.state.bytes (half_for (page_pairs v0.store.state.bytes page) page (page_due v0.store.state.bytes 0) key) ∷ [] ≡ chain_actions v0.store.state.bytes root key
      made_first told = ap (λ (ps : List ℕ). acted ps 1 ∷ adding v0.store.state.bytes (half_for (page_pairs v0.store.state.bytes page) page (page_due v0.store.state.bytes 0) key) ∷ []) (cut_pages_are told) ∙ sym (two_actions told)

      -- the cut was refused
      pub cut_err : (v2 : PagesView) (fault : PageFault) → (let r : Result (Unit {0}) PageFault = Err fault in Acts tells (E v1.store.shape) t (cutting_pages taken page) (cutting_parts after taken page link pairs) v1 v2 r)
          → (let s : Result ℕ IndexFault = Err (as_index fault) in Inserts tells (E v0.store.shape) chain t root table key v0 v2 s)
      cut_err v2 fault acts' =
          let r : Result (Unit {0}) PageFault = Err fault in
          inserts_act_err chain tells (E v0.store.shape) t root table key v0 v1 v2 going2 (cutting_pages taken page) (cutting_parts after taken page link pairs) may2 alive
          (λ g h n lacks. let lacks' = lacks_same v0.store v1.store t going2.shape (going2.logs.ranges t) (cutting_pages taken page) g h n lacks in (
            alive,
            (cutting_pages taken page, omega arith, lacks'),
            λ told. (slot_left told, (due_two told).lack_room g h n (inl (one_left told, subst (λ (ps : List ℕ). IsFirstLacking v0.store t ps g h n) (cut_pages_are told) lacks'))),
          ))
          fault (cut_start v2 r acts')

      module _ (v2 : PagesView) (acts' : (let r : Result (Unit {0}) PageFault = Ok tt in Acts tells (E v1.store.shape) t (cutting_pages taken page) (cutting_parts after taken page link pairs) v1 v2 r)) where
        cut_acts : (let r : Result (Unit {0}) PageFault = Ok tt in Acts tells (E v0.store.shape) t (cutting_pages taken page) (cutting_parts after taken page link pairs) v1 v2 r)
        cut_acts = (let r : Result (Unit {0}) PageFault = Ok tt in cut_start v2 r acts')

        pub going3 : Going chain tells (E v0.store.shape) t root table key v0 v2
        going3 = going_act chain tells (E v0.store.shape) t root table key v0 v1 v2 going2 (cutting_pages taken page) (cutting_parts after taken page link pairs) may2 cut_acts (λ told living. data2 told)

        pub living3 : IsAlive v2.store
        living3 = alive_now chain tells (E v0.store.shape) t root table key v0 v2 going3 alive

        bytes3 : IsTrue tells → v2.store.state.bytes ≡ applied (cutting_parts after taken page link pairs) v0.store.state.bytes
        bytes3 told = cut_acts.made told ((looks.still refl).dead ∙ alive) ∙ ap (λ (b : List ℕ). applied (cutting_parts after taken page link pairs) b) (same2 told)

        pub sound3 : IsTrue tells → IsSoundChain v2.store.state.bytes
        sound3 told = (going3.made told alive).0.sound

        pub named3 : IsTrue tells → IsTable v2.store.state.bytes table root
        named3 told = named_kept v2.store.state.bytes v0.store.state.bytes (sym (going3.made told alive).0.tables) table root (named told)

        pub absent3 : IsTrue tells → found (pairs_of_chain v2.store.state.bytes root) key ≡ None
        absent3 told = ap (λ (ps : List Pair). found ps key) (going3.made told alive).1.pairs ∙ absent told

        -- and the rest of the actions is what is due then
        pub made_cut : IsTrue tells → acted (cutting_pages taken page) 1 ∷ chain_actions v2.store.state.bytes root key ≡ chain_actions v0.store.state.bytes root key
        made_cut told =
            let rest = half_left v0.store.shape v0.store.state.bytes half (long told) half_is all few root table front page link pairs key fits loc (sound told) (named told) (said told) after taken (takes told) full (used_left told) in
            ap (λ (b : List ℕ). acted (cutting_pages taken page) 1 ∷ chain_actions b root key) (bytes3 told) ∙ ap (λ (steps : List Action). acted (cutting_pages taken page) 1 ∷ steps) rest ∙ made_first told

        module _ (hfront : Super) (hpage hlink : ℕ) (hpairs : List Pair) (front_is : hfront ≡ after) (page_is : hpage ≡ half_for pairs page taken key) (link_is : hlink ≡ half_for pairs taken link key)
            (pairs_are : hpairs ≡ half_for pairs (take 15 pairs) (drop 15 pairs) key) where
          half_read : IsLocated v0.store.shape after hpage hlink hpairs × (length hpairs ≡ 15)
          half_read = elim (leb_tells (suc key) (key_at pairs 15)) [
            | inl h ↦
                let b : nat_lt key (key_at pairs 15) ≡ true = h.0 in
                let at : hpage ≡ page = page_is ∙ (rw b refl) in
                let to : hlink ≡ taken = link_is ∙ (rw b refl) in
                let of : hpairs ≡ take 15 pairs = pairs_are ∙ (rw b refl) in
                let many : length hpairs ≡ 15 = ap (λ (ps : List Pair). length ps) of ∙ length-take-le 15 pairs (omega (arith, full)) in (
                  record {
                    front_is = after_is;
                    some = omega (arith, at, loc.some);
                    inside = omega (arith, at, loc.inside);
                    most = omega (arith, many);
                    small = subst (λ (ps : List Pair). AreSmall ps) (sym of) (small_take 15 pairs loc.small).0;
                  },
                  many,
                )
            | inr h ↦
                let b : nat_lt key (key_at pairs 15) ≡ false = h.0 in
                let at : hpage ≡ taken = page_is ∙ (rw b refl) in
                let to : hlink ≡ link = link_is ∙ (rw b refl) in
                let of : hpairs ≡ drop 15 pairs = pairs_are ∙ (rw b refl) in
                let many : length hpairs ≡ 15 = ap (λ (ps : List Pair). length ps) of ∙ (let e : length (drop 15 pairs) ≡ 15 = omega (arith, length-drop 15 pairs, full) in e) in (
                  record {
                    front_is = after_is;
                    some = omega (arith, at, taken_in.0);
                    inside = omega (arith, at, taken_in.1);
                    most = omega (arith, many);
                    small = subst (λ (ps : List Pair). AreSmall ps) (sym of) (small_take 15 pairs loc.small).1;
                  },
                  many,
                )
          ]

          pub located3 : IsLocated v2.store.shape hfront hpage hlink hpairs
          located3 = subst (λ (s : Shape). IsLocated s hfront hpage hlink hpairs) (sym going3.shape) (subst (λ (f : Super). IsLocated v0.store.shape f hpage hlink hpairs) (sym front_is) half_read.0)

          pub room3 : length hpairs < 30
          room3 = omega (arith, half_read.1)

          pub slot3 : hfront.free_slots ≡ 0 → hfront.next_slot < slots_of v2.store.shape
          slot3 none =
              let less : front.next_slot < slots_of v0.store.shape = slot (sym after_slots.1 ∙ ap (λ (f : Super). f.free_slots) (sym front_is) ∙ none) in
              omega (arith, less, after_slots.0, ap (λ (f : Super). f.next_slot) front_is, ap slots_of going3.shape)

          pub said3 : IsTrue tells → Locates v2.store.state.bytes root key hfront hpage hlink hpairs
          said3 told =
              subst (λ (f : Super). Locates v2.store.state.bytes root key f hpage hlink hpairs) (sym front_is)
              (subst (λ (b : List ℕ). Locates b root key after hpage hlink hpairs) (sym (bytes3 told))
              (half_located v0.store.shape v0.store.state.bytes half (long told) half_is all few root table front page link pairs key fits loc (sound told) (named told) (said told) after taken (takes told) full (used_left told)
              hpage hlink hpairs page_is link_is pairs_are))

          after3 : IsTrue tells → (next_slot v2.store.state.bytes ≡ next_slot v0.store.state.bytes) × (hfront.next_page ≤ next_page v0.store.state.bytes + 9)
          after3 told =
              let a = cut_after v0.store.shape v0.store.state.bytes half (long told) half_is all few root table front page link pairs key fits loc (sound told) (named told) (said told) after taken (takes told) full (used_left told) in
              let next : next_page v2.store.state.bytes ≡ next_page v0.store.state.bytes + (1 - free_pages v0.store.state.bytes) = ap (λ (b : List ℕ). next_page b) (bytes3 told) ∙ a.pages_next in
              (ap (λ (b : List ℕ). next_slot b) (bytes3 told) ∙ a.slots_next, omega (arith, next, (said3 told).front_says.next_page))

          cut_fits : IsTrue tells → ActionFits v0.store t (index_pages_of v0.store.shape - used_pages v0.store.state.bytes) (cutting v0.store.state.bytes page)
          cut_fits told = (one_left told, subst (λ (ps : List ℕ). FitAll v0.store t ps) (cut_pages_are told) (fits_same v0.store v1.store t going2.shape (going2.logs.ranges t) (cutting_pages taken page) cut_acts.cause.1))

          decides3 : IsTrue tells → DecidesAll v0.store t (index_pages_of v0.store.shape - used_pages v0.store.state.bytes) (chain_actions v0.store.state.bytes root key)
              (index_pages_of v0.store.shape - used_pages v2.store.state.bytes) (chain_actions v2.store.state.bytes root key)
          decides3 told =
              let used = cut_used v0.store.shape v0.store.state.bytes half (long told) half_is all few root table front page link pairs key fits loc (sound told) (named told) (said told) after taken (takes told) full (used_left told) in
              let rest = half_left v0.store.shape v0.store.state.bytes half (long told) half_is all few root table front page link pairs key fits loc (sound told) (named told) (said told) after taken (takes told) full (used_left told) in
              let less : index_pages_of v0.store.shape - used_pages v0.store.state.bytes - 1 ≡ index_pages_of v0.store.shape - used_pages (applied (cutting_parts after taken page link pairs) v0.store.state.bytes) = omega (arith, used, used_left told) in
              let first = one_done v0.store t (index_pages_of v0.store.shape - used_pages v0.store.state.bytes) (chain_actions v0.store.state.bytes root key) (index_pages_of v0.store.shape - used_pages v0.store.state.bytes)
              (cutting v0.store.state.bytes page) (adding v0.store.state.bytes (half_for (page_pairs v0.store.state.bytes page) page (page_due v0.store.state.bytes 0) key) ∷ []) (due_two told) (cut_fits told) in
              subst (λ (b : List ℕ). DecidesAll v0.store t (index_pages_of v0.store.shape - used_pages v0.store.state.bytes) (chain_actions v0.store.state.bytes root key) (index_pages_of v0.store.shape - used_pages b) (chain_actions b root key)) (sym (bytes3 told))
              (subst (λ (steps : List Action). DecidesAll v0.store t (index_pages_of v0.store.shape - used_pages v0.store.state.bytes) (chain_actions v0.store.state.bytes root key)
              (index_pages_of v0.store.shape - used_pages (applied (cutting_parts after taken page link pairs) v0.store.state.bytes)) steps) (sym rest)
              (subst (λ (n : ℕ). DecidesAll v0.store t (index_pages_of v0.store.shape - used_pages v0.store.state.bytes) (chain_actions v0.store.state.bytes root key) n
              (adding v0.store.state.bytes (half_for (page_pairs v0.store.state.bytes page) page (page_due v0.store.state.bytes 0) key) ∷ [])) less first))

          -- what is left of the insertion decides
          pub cut_then : (v3 : PagesView) (r : Result ℕ IndexFault) → Inserts tells (E v2.store.shape) (chain_within hfront.next_page) t root table key v2 v3 r → Inserts tells (E v0.store.shape) chain t root table key v0 v3 r
          cut_then v3 r rest =
              inserts_then tells E t root table key v0 v2 v3 chain (chain_within hfront.next_page) going3 alive
              (λ told. let a = after3 told in let d = going3.made told alive in joins_within chain hfront.next_page chain_actions root table key v0.store.state.bytes v2.store.state.bytes a.1 a.0 d.0 d.1)
              decides3 r rest

-- what was only looked at before
module _ (tells : Bool) (E : Shape → List ℕ → List ℕ → Type 0) (t root table key : ℕ) (v0 v1 : PagesView) (sound : IsTrue tells → IsAlive v0.store → IsSoundChain v0.store.state.bytes)
    (looks : Looks tells (E v0.store.shape) false v0 v1) (alive : IsAlive v0.store) where
  looked : Going chain tells (E v0.store.shape) t root table key v0 v1
  looked = going_looks chain tells (E v0.store.shape) t root table key v0 v1 sound looks

  same_yet : IsTrue tells → v1.store.state.bytes ≡ v0.store.state.bytes
  same_yet told = ap (λ (s : State). s.bytes) ((looks.still refl).state told)

  -- what was known of the data still is
  pub alive_yet : IsAlive v1.store
  alive_yet = (looks.still refl).dead ∙ alive

  pub yet : (P : List ℕ → Type 0) → (IsTrue tells → IsAlive v0.store → P v0.store.state.bytes) → IsTrue tells → P v1.store.state.bytes
  yet P before told = subst (λ (b : List ℕ). P b) (sym (same_yet told)) (before told alive)

  all_due : IsTrue tells → DecidesAll v0.store t (index_pages_of v0.store.shape - used_pages v0.store.state.bytes) (chain_actions v0.store.state.bytes root key)
      (index_pages_of v0.store.shape - used_pages v1.store.state.bytes) (chain_actions v1.store.state.bytes root key)
  all_due told =
      subst (λ (b : List ℕ). DecidesAll v0.store t (index_pages_of v0.store.shape - used_pages v0.store.state.bytes) (chain_actions v0.store.state.bytes root key) (index_pages_of v0.store.shape - used_pages b) (chain_actions b root key)) (sym (same_yet told))
      (all_left v0.store t (index_pages_of v0.store.shape - used_pages v0.store.state.bytes) (chain_actions v0.store.state.bytes root key))

  -- the rest of the insertion, with a cut and without one
  pub looked_cut : (v2 : PagesView) (r : Result ℕ IndexFault) → Inserts tells (E v1.store.shape) chain t root table key v1 v2 r → Inserts tells (E v0.store.shape) chain t root table key v0 v2 r
  looked_cut v2 r rest = inserts_then tells E t root table key v0 v1 v2 chain chain looked alive (λ told. joins_same chain root table key v0.store.state.bytes v1.store.state.bytes (same_yet told)) all_due r rest

  pub looked_here : (most : ℕ) → (IsTrue tells → most ≡ next_page v0.store.state.bytes) → (v2 : PagesView) (r : Result ℕ IndexFault)
      → Inserts tells (E v1.store.shape) (chain_within most) t root table key v1 v2 r → Inserts tells (E v0.store.shape) chain t root table key v0 v2 r
  looked_here most most_is v2 r rest =
      inserts_then tells E t root table key v0 v1 v2 chain (chain_within most) looked alive
      (λ told. let d = looked.made told alive in joins_within chain most chain_actions root table key v0.store.state.bytes v1.store.state.bytes (omega (arith, most_is told)) (ap (λ (b : List ℕ). next_slot b) (same_yet told)) d.0 d.1)
      all_due r rest
