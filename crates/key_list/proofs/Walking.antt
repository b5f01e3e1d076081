-- A walk along a sound chain.
use Rattle.std.proofs.Common.{◌≡◌, ◌≢◌, ℕ, zero, suc, ◌+◌, ◌-◌, ◌<◌, ◌≤◌, true, false, nat_eq, nat_lt, List, [], ◌∷◌, length, Option, Some, None, inl, inr, refl, sym, ◌∙◌, ap, subst, arith}
use Rattle.std.specs.Prelude.{is_some, nat_le, ◌||◌, if◌then◌else◌}
use Rattle.std.proofs.lemmas.Bool.Decides.{nat_tests, eqb_tells, leb_tells}
use Rattle.page_store.specs.Pairs.{Pair, Rise, AreInside, AreNext, InTurn, found, next}
use Rattle.record_slots.specs.Places.{page_bytes, next_slot, next_page, AreGiven, first_slot_page, IsSuper}
use Rattle.index_pages.specs.Page.{page_pairs, link_of, count_of, count_said, pair_said, pairs_from, pairs_said}
use Rattle.index_pages.proofs.Reading.{from_first}
use Rattle.index_pages.specs.Pieces.{joined}
use Rattle.key_list.specs.Chain.{behind, chain_pieces, first_key, chain_check, pairs_of_chain, chain_page_for, page_of_key}
use Rattle.key_list.specs.Seen.{IsChain, IsChainPage, pages_of_sound, pieces_have}
use Rattle.index_pages.proofs.Rising.{next-none, next-some, found-below}
use Rattle.key_list.specs.ChainFacts.{chain_head, first_from}
use Rattle.key_list.proofs.ChainActions.{first_below, later_some, linked_some, rise_from}
use Rattle.index_pages.specs.Keys.{from_on, key_end}
use Rattle.index_pages.proofs.Turns.{are_next, rest_none, turn_in, turn_rest}
use Rattle.key_list.specs.Along.{ends_at}
use Rattle.key_list.specs.Linked.{IsLinked, Reaches}

-- after `steps` steps the chain from this page on answers
pub record Next (bytes : List ℕ) (root table from steps page : ℕ) : Type 0 where
  pub n : ℕ
  pub low : ℕ
  pub start : ℕ
  pub chain : IsChain table (suc n) bytes page low
  pub left : suc n + steps ≡ next_page bytes
  pub answers : (k : ℕ) → from ≤ k → next (pairs_of_chain bytes root) k ≡ next (joined (chain_pieces (suc n) bytes page start)) k

pub next_first : (bytes : List ℕ) (root table from : ℕ) → 1 ≤ next_page bytes → chain_check bytes root table None → Next bytes root table from 0 root
next_first bytes root table from some sound =
    let e : next_page bytes ≡ suc (next_page bytes - 1) = omega (arith, some) in
    record {
      n = next_page bytes - 1;
      low = 0;
      start = 0;
      chain = subst (λ (n : ℕ). IsChain table n bytes root 0) e (pages_of_sound bytes root table sound);
      left = omega arith;
      answers = λ k le. ap (λ (ps : List Pair). next ps k) (sym (pieces_have bytes root)) ∙ ap (λ (n : ℕ). next (joined (chain_pieces n bytes root 0)) k) e;
    }

-- a page of the chain is linked as it has to be
pub page_linked : (bytes : List ℕ) (table pages page low : ℕ) → IsSuper 0 bytes → first_slot_page bytes ≡ pages → IsChainPage table bytes page low → IsLinked pages (page_bytes bytes page)
page_linked bytes table pages page low sound is head = record {
  leaf = record { kind = head.kind; level = head.level; most = head.most };
  link = elim (eqb_tells (link_of bytes page) 0) [
    | inl none ↦ omega (arith, none.1, sound.some_pages, sound.pages)
    | inr some ↦ omega (arith, (head.link some.1).1, sound.pages)
  ];
}

pub next_linked : (bytes : List ℕ) (root table pages from steps page : ℕ) → IsSuper 0 bytes → first_slot_page bytes ≡ pages → Next bytes root table from steps page → IsLinked pages (page_bytes bytes page)
next_linked bytes root table pages from steps page sound is at = page_linked bytes table pages page at.low sound is (chain_head table (suc at.n) bytes page at.low at.chain)

-- no pair from a key on, and so none from a later one on
none_later : (from k : ℕ) (ps : List Pair) → from ≤ k → next ps from ≡ None → next ps k ≡ None
none_later from k [] le none = refl
none_later from k (q ∷ qs) le none =
    elim (leb_tells from q.0) [
      | inl here ↦ let b : nat_le from q.0 ≡ true = here.0 in let e : Some q ≡ None = (rw b at none) in absurd (cc)
      | inr there ↦
          let b : nat_le from q.0 ≡ false = there.0 in
          let b' : nat_le k q.0 ≡ false = grind (arith, nat_tests, there.1, le) in
          rw b' (none_later from k qs le (rw b at none))
    ]

next_on : (n : ℕ) (bytes : List ℕ) (root table from steps page low start : ℕ) → IsChain table (suc n) bytes page low → suc n + steps ≡ next_page bytes
    → ((k : ℕ) → from ≤ k → next (pairs_of_chain bytes root) k ≡ next (joined (chain_pieces (suc n) bytes page start)) k)
    → link_of bytes page ≢ 0 → next (page_pairs bytes page) from ≡ None → Next bytes root table from (steps + 1) (link_of bytes page)
next_on zero bytes root table from steps page low start chain left answers more none = absurd (chain.1 more)
next_on (suc n) bytes root table from steps page low start chain left answers more none =
    let b : nat_eq (link_of bytes page) 0 ≡ false = grind (arith, nat_tests) in
    record {
      n = n;
      low = behind low (page_pairs bytes page);
      start = first_key (page_pairs bytes (link_of bytes page));
      chain = chain.1 more;
      left = omega arith;
      answers = λ k le.
          answers k le
          ∙ next-none k (page_pairs bytes page) (joined (if nat_eq (link_of bytes page) 0 then [] else chain_pieces (suc n) bytes (link_of bytes page) (first_key (page_pairs bytes (link_of bytes page))))) (none_later from k (page_pairs bytes page) le none)
          ∙ (rw b refl);
    }

pub next_step : (bytes : List ℕ) (root table from steps page : ℕ) → Next bytes root table from steps page → link_of bytes page ≢ 0 → next (page_pairs bytes page) from ≡ None → Next bytes root table from (steps + 1) (link_of bytes page)
next_step bytes root table from steps page at more none = next_on at.n bytes root table from steps page at.low at.start at.chain at.left at.answers more none

-- what the page says is next from the key on, or from a later one, is so in the chain
pub reached : (bytes : List ℕ) (root table from steps page : ℕ) → Next bytes root table from steps page → Reaches bytes root table from (page_bytes bytes page)
reached bytes root table from steps page at =
    let head = chain_head table (suc at.n) bytes page at.low at.chain in
    record {
      rises = (at.low, head.rises);
      given = head.given;
      later = λ k p le some. at.answers k le ∙ next-some k p (page_pairs bytes page) _ some;
    }

-- the pairs of the page from the key on come next in the chain
pub reached_next : (bytes : List ℕ) (root table from slots : ℕ) (said : List ℕ) → Reaches bytes root table from said → next (pairs_said said) from ≢ None → (some : List Pair) → some ≡ from_on (pairs_said said) from → AreInside from slots some
    → AreNext (pairs_of_chain bytes root) from some
reached_next bytes root table from slots said at there some is inside =
    are_next (pairs_of_chain bytes root) from some
    (turn_in (pairs_of_chain bytes root) (pairs_said said) from some at.later
    (subst (λ (l : List Pair). InTurn (pairs_said said) from l) (sym is) (turn_rest from slots (pairs_said said) (subst (λ (l : List Pair). AreInside from slots l) is inside))))
    (λ e. absurd (there (rest_none (pairs_said said) from (sym is ∙ e))))

pub next_last : (bytes : List ℕ) (root table from steps page : ℕ) → Next bytes root table from steps page → link_of bytes page ≡ 0 → next (page_pairs bytes page) from ≡ None → next (pairs_of_chain bytes root) from ≡ None
next_last bytes root table from steps page at last none =
    let b : nat_eq (link_of bytes page) 0 ≡ true = grind (arith, nat_tests) in
    at.answers from (omega arith)
    ∙ next-none from (page_pairs bytes page) (joined (if nat_eq (link_of bytes page) 0 then [] else chain_pieces at.n bytes (link_of bytes page) (first_key (page_pairs bytes (link_of bytes page))))) none
    ∙ (rw b refl)

-- the slot of a pair that is found is given
pub given_next : (bytes : List ℕ) (table from : ℕ) (p : Pair) (ps : List Pair) → AreGiven bytes table ps → next ps from ≡ Some p → p.1 < next_slot bytes
given_next bytes table from p [] given some = absurd (cc)
given_next bytes table from p (q ∷ qs) given some =
    elim (leb_tells from q.0) [
      | inl le ↦ let b : nat_le from q.0 ≡ true = le.0 in let e : Some q ≡ Some p = (let some' : (if nat_le from q.0 then Some q else next qs from) ≡ Some p = some in rw b at some') in let e' : q ≡ p = cc in omega (arith, given.0, ap (λ (x : Pair). x.1) e')
      | inr lt ↦ let b : nat_le from q.0 ≡ false = lt.0 in given_next bytes table from p qs given.2 (let some' : (if nat_le from q.0 then Some q else next qs from) ≡ Some p = some in rw b at some')
    ]

pub none_is : (o : Option Pair) → false ≡ is_some o → o ≡ None
none_is None is = refl
none_is (Some p) is = absurd (cc)

pub some_is : (o : Option Pair) → true ≡ is_some o → o ≢ None
some_is None is = absurd (cc)
some_is (Some p) is = λ none. absurd (cc)

-- what a key leads to follows from the least pair from it on
pub found_next : (ps : List Pair) (key : ℕ) (p : Pair) → next ps key ≡ Some p → p.0 ≡ key → found ps key ≡ Some p.1
found_next [] key p some is = absurd (cc)
found_next (q ∷ qs) key p some is =
    elim (leb_tells key q.0) [
      | inl le ↦
          let b : nat_le key q.0 ≡ true = le.0 in
          let e : Some q ≡ Some p = (let some' : (if nat_le key q.0 then Some q else next qs key) ≡ Some p = some in rw b at some') in
          let same : q ≡ p = cc in
          let b' : nat_eq q.0 key ≡ true = grind (arith, nat_tests, ap (λ (x : Pair). x.0) same, is) in
          rw b' (ap (λ (x : Pair). Some x.1) same)
      | inr lt ↦
          let b : nat_le key q.0 ≡ false = lt.0 in
          let b' : nat_eq q.0 key ≡ false = grind (arith, nat_tests, lt.1) in
          let e : next qs key ≡ Some p = (let some' : (if nat_le key q.0 then Some q else next qs key) ≡ Some p = some in rw b at some') in
          rw b' (found_next qs key p e is)
    ]

pub found_none : (ps : List Pair) (key : ℕ) → next ps key ≡ None → found ps key ≡ None
found_none [] key none = refl
found_none (q ∷ qs) key none =
    elim (leb_tells key q.0) [
      | inl le ↦ let b : nat_le key q.0 ≡ true = le.0 in let e : Some q ≡ None = (let none' : (if nat_le key q.0 then Some q else next qs key) ≡ None = none in rw b at none') in absurd (cc)
      | inr lt ↦
          let b : nat_le key q.0 ≡ false = lt.0 in
          let b' : nat_eq q.0 key ≡ false = grind (arith, nat_tests, lt.1) in
          let e : next qs key ≡ None = (let none' : (if nat_le key q.0 then Some q else next qs key) ≡ None = none in rw b at none') in
          rw b' (found_none qs key e)
    ]

pub found_other : (low high : ℕ) (ps : List Pair) (key : ℕ) (p : Pair) → Rise low high ps → next ps key ≡ Some p → (p.0 ≡ key → ⊥) → found ps key ≡ None
found_other low high [] key p rises some other = absurd (cc)
found_other low high (q ∷ qs) key p rises some other =
    elim (leb_tells key q.0) [
      | inl le ↦
          let b : nat_le key q.0 ≡ true = le.0 in
          let e : Some q ≡ Some p = (let some' : (if nat_le key q.0 then Some q else next qs key) ≡ Some p = some in rw b at some') in
          let same : q ≡ p = cc in
          let b' : nat_eq q.0 key ≡ false = (elim (eqb_tells q.0 key) [ inl y ↦ absurd (other (ap (λ (x : Pair). x.0) (sym same) ∙ y.1)) | inr n ↦ n.0 ]) in
          let above : key < suc q.0 = omega (arith, le.1) in
          rw b' (found-below (suc q.0) high key qs rises.1 above)
      | inr lt ↦
          let b : nat_le key q.0 ≡ false = lt.0 in
          let b' : nat_eq q.0 key ≡ false = grind (arith, nat_tests, lt.1) in
          let e : next qs key ≡ Some p = (let some' : (if nat_le key q.0 then Some q else next qs key) ≡ Some p = some in rw b at some') in
          rw b' (found_other (suc q.0) high qs key p rises.1 e other)
    ]

-- on the way to the page of a key: this page was read, the last of so many, and the one after it is next
pub record Place (bytes : List ℕ) (root table key steps page link : ℕ) : Type 0 where
  pub n : ℕ
  pub low : ℕ
  pub chain : IsChain table (suc n) bytes page low
  pub left : n + steps ≡ next_page bytes
  pub link_is : link ≡ link_of bytes page
  pub answers : page_of_key bytes root key ≡ chain_page_for (suc n) bytes page key

pub place_first : (bytes : List ℕ) (root table key link : ℕ) → 1 ≤ next_page bytes → chain_check bytes root table None → link ≡ link_of bytes root → Place bytes root table key 1 root link
place_first bytes root table key link some sound link_is =
    let e : next_page bytes ≡ suc (next_page bytes - 1) = omega (arith, some) in
    record {
      n = next_page bytes - 1;
      low = 0;
      chain = subst (λ (n : ℕ). IsChain table n bytes root 0) e (pages_of_sound bytes root table sound);
      left = omega arith;
      link_is = link_is;
      answers = ap (λ (n : ℕ). chain_page_for n bytes root key) e;
    }

pub first_linked : (bytes : List ℕ) (root table pages : ℕ) → IsSuper 0 bytes → chain_check bytes root table None → first_slot_page bytes ≡ pages → IsLinked pages (page_bytes bytes root)
first_linked bytes root table pages front sound is = page_linked bytes table pages root 0 front is (chain_head table (next_page bytes) bytes root 0 (pages_of_sound bytes root table sound))

-- the chain after the page
link_chain : (n : ℕ) (bytes : List ℕ) (table page low link : ℕ) → IsChain table (suc n) bytes page low → link ≡ link_of bytes page → link ≢ 0 → IsChainPage table bytes link (behind low (page_pairs bytes page)) × (2 ≤ link) × (1 ≤ behind low (page_pairs bytes page))
link_chain n bytes table page low link chain is more =
    let more' : link_of bytes page ≢ 0 = λ e. more (is ∙ e) in
    subst (λ (x : ℕ). IsChainPage table bytes x (behind low (page_pairs bytes page)) × (2 ≤ x) × (1 ≤ behind low (page_pairs bytes page))) (sym is)
    (chain_head table n bytes (link_of bytes page) (behind low (page_pairs bytes page)) (chain.1 more'), (chain.0.link more').0, (let near = first_below low key_end (page_pairs bytes page) (linked_some table bytes page low more' chain.0) chain.0.rises in omega (arith, near)))

pub place_linked : (bytes : List ℕ) (root table pages key steps page link : ℕ) → IsSuper 0 bytes → first_slot_page bytes ≡ pages → Place bytes root table key steps page link → link ≢ 0 → IsLinked pages (page_bytes bytes link)
place_linked bytes root table pages key steps page link sound is at more =
    page_linked bytes table pages link (behind at.low (page_pairs bytes page)) sound is (link_chain at.n bytes table page at.low link at.chain at.link_is more).0

pub place_some : (bytes : List ℕ) (root table key steps page link : ℕ) → Place bytes root table key steps page link → link ≢ 0 → count_of bytes link ≢ 0
place_some bytes root table key steps page link at more none =
    let head = link_chain at.n bytes table page at.low link at.chain at.link_is more in
    omega (arith, head.2, (head.0.some none).0)

pub place_last : (bytes : List ℕ) (root table key steps page link : ℕ) → Place bytes root table key steps page link → link ≡ 0 → page_of_key bytes root key ≡ page
place_last bytes root table key steps page link at last =
    let e : link_of bytes page ≡ 0 = sym at.link_is ∙ last in
    let b : nat_eq (link_of bytes page) 0 ≡ true = grind (arith, nat_tests) in
    at.answers ∙ (rw b refl)

pub place_here : (bytes : List ℕ) (root table key steps page link : ℕ) → Place bytes root table key steps page link → link ≢ 0 → key < first_key (page_pairs bytes link) → page_of_key bytes root key ≡ page
place_here bytes root table key steps page link at more lt =
    let other : link_of bytes page ≢ 0 = λ e. more (at.link_is ∙ e) in
    let b : nat_eq (link_of bytes page) 0 ≡ false = grind (arith, nat_tests) in
    let below : key < first_key (page_pairs bytes (link_of bytes page)) = subst (λ (x : ℕ). key < first_key (page_pairs bytes x)) at.link_is lt in
    let b' : nat_lt key (first_key (page_pairs bytes (link_of bytes page))) ≡ true = grind (arith, nat_tests) in
    at.answers ∙ (rw b (rw b' refl))

-- the first pair from a key on is before what comes behind the pairs
next_behind : (low high key : ℕ) (ps : List Pair) (p : Pair) → Rise low high ps → next ps key ≡ Some p → (key ≤ p.0) × (p.0 < behind low ps)
next_behind low high key [] p rises some = absurd (cc)
next_behind low high key (q ∷ qs) p rises some =
    elim (leb_tells key q.0) [
      | inl le ↦
          let b : nat_le key q.0 ≡ true = le.0 in
          let e : Some q ≡ Some p = (rw b at some) in
          let same : q ≡ p = cc in
          let far = rise_from (suc q.0) high qs rises.1 in
          subst (λ (x : Pair). (key ≤ x.0) × (x.0 < behind (suc q.0) qs)) same (le.1, omega (arith, far))
      | inr lt ↦ let b : nat_le key q.0 ≡ false = lt.0 in next_behind (suc q.0) high key qs p rises.1 (rw b at some)
    ]

-- a key goes into the page that has a pair from it on, since the pages behind begin above that
place_within : (bytes : List ℕ) (root table key steps page link : ℕ) (p : Pair) → Place bytes root table key steps page link → link ≢ 0 → next (page_pairs bytes page) key ≡ Some p → page_of_key bytes root key ≡ page
place_within bytes root table key steps page link p at more some =
    let head = link_chain at.n bytes table page at.low link at.chain at.link_is more in
    let here = chain_head table (suc at.n) bytes page at.low at.chain in
    let near = next_behind at.low key_end key (page_pairs bytes page) p here.rises some in
    let many = later_some table bytes link (behind at.low (page_pairs bytes page)) head.2 head.0 in
    let far = first_from (behind at.low (page_pairs bytes page)) key_end (page_pairs bytes link) many head.0.rises in
    place_here bytes root table key steps page link at more (omega (arith, near.0, near.1, far.0))

-- where the way of the key ends, and is not past its page
pub place_ends : (bytes : List ℕ) (root table key steps page link : ℕ) → Place bytes root table key steps page link → ends_at key (page_bytes bytes page) ≡ true → page_of_key bytes root key ≡ page
place_ends bytes root table key steps page link at ends = elim (eqb_tells link 0) [
  | inl last ↦ place_last bytes root table key steps page link at last.1
  | inr more ↦
      let other : link_of bytes page ≢ 0 = λ e. more.1 (at.link_is ∙ e) in
      let b : nat_eq (link_of bytes page) 0 ≡ false = grind (arith, nat_tests) in
      let ends' : (is_some (next (page_pairs bytes page) key) || nat_eq (link_of bytes page) 0) ≡ true = ends in
      here (next (page_pairs bytes page) key) refl (rw b at ends') more.1
]
  where
    here : (o : Option Pair) → next (page_pairs bytes page) key ≡ o → (is_some o || false) ≡ true → link ≢ 0 → page_of_key bytes root key ≡ page
    here None is none more = absurd (cc)
    here (Some p) is some more = place_within bytes root table key steps page link p at more is

-- as many pages were read as are given: no more can follow
pub place_out : (bytes : List ℕ) (root table key steps page link : ℕ) → Place bytes root table key steps page link → link ≢ 0 → next_page bytes ≤ steps → ⊥
place_out bytes root table key steps page link at more most = out at.n at.chain (omega (arith, at.left, most))
  where
    out : (n : ℕ) → IsChain table (suc n) bytes page at.low → n ≡ 0 → ⊥
    out zero chain is = chain.1 (λ e. more (at.link_is ∙ e))
    out (suc n) chain is = absurd (omega (arith, is))

place_on : (n : ℕ) (bytes : List ℕ) (root table key steps page low link : ℕ) → IsChain table (suc n) bytes page low → n + steps ≡ next_page bytes → page_of_key bytes root key ≡ chain_page_for (suc n) bytes page key
    → link_of bytes page ≢ 0 → first_key (page_pairs bytes (link_of bytes page)) ≤ key → link ≡ link_of bytes (link_of bytes page) → Place bytes root table key (steps + 1) (link_of bytes page) link
place_on zero bytes root table key steps page low link chain left answers other le is = absurd (chain.1 other)
place_on (suc n) bytes root table key steps page low link chain left answers other le is =
    let b : nat_eq (link_of bytes page) 0 ≡ false = grind (arith, nat_tests) in
    let b' : nat_lt key (first_key (page_pairs bytes (link_of bytes page))) ≡ false = grind (arith, nat_tests) in
    record {
      n = n;
      low = behind low (page_pairs bytes page);
      chain = chain.1 other;
      left = omega arith;
      link_is = is;
      answers = answers ∙ (rw b (rw b' refl));
    }

pub place_step : (bytes : List ℕ) (root table key steps page link next : ℕ) → Place bytes root table key steps page link → link ≢ 0 → first_key (page_pairs bytes link) ≤ key → next ≡ link_of bytes link → Place bytes root table key (steps + 1) link next
place_step bytes root table key steps page link next at more le is =
    subst (λ (x : ℕ). Place bytes root table key (steps + 1) x next) (sym at.link_is)
    (place_on at.n bytes root table key steps page at.low next at.chain at.left at.answers (λ e. more (at.link_is ∙ e)) (subst (λ (x : ℕ). first_key (page_pairs bytes x) ≤ key) at.link_is le) (is ∙ ap (λ (x : ℕ). link_of bytes x) at.link_is))

-- the first key of a page with pairs
first_from_some : (page : List ℕ) (n : ℕ) → n ≢ 0 → first_key (pairs_from page 0 n) ≡ (pair_said page 0).0
first_from_some page zero some = absurd (some refl)
first_from_some page (suc n) some = refl

pub first_said : (page : List ℕ) → count_said page ≢ 0 → first_key (pairs_said page) ≡ (pair_said page 0).0
first_said page some = ap (λ (ps : List Pair). first_key ps) (from_first page) ∙ first_from_some page (count_said page) some

length-from : (page : List ℕ) (i n : ℕ) → length (pairs_from page i n) ≡ n
length-from page i zero = refl
length-from page i (suc n) = ap suc (length-from page (i + 1) n)

pub length-said : (page : List ℕ) → length (pairs_said page) ≡ count_said page
length-said page = ap (λ (ps : List Pair). length ps) (from_first page) ∙ length-from page 0 (count_said page)

-- a page that counts pairs has some
pub some_said : (page : List ℕ) → count_said page ≢ 0 → 1 ≤ length (pairs_said page)
some_said page some = omega (arith, length-said page, some)

-- the page of a key is one of the chain
page_on_chain : (n : ℕ) (bytes : List ℕ) (table page low key : ℕ) → IsChain table n bytes page low → (l : ℕ) × IsChainPage table bytes (chain_page_for n bytes page key) l
page_on_chain zero bytes table page low key chain = absurd chain
page_on_chain (suc n) bytes table page low key chain =
    elim (eqb_tells (link_of bytes page) 0) [
      | inl last ↦ let b : nat_eq (link_of bytes page) 0 ≡ true = last.0 in rw b (low, chain.0)
      | inr more ↦
          let b : nat_eq (link_of bytes page) 0 ≡ false = more.0 in
          elim (leb_tells (suc key) (first_key (page_pairs bytes (link_of bytes page)))) [
            | inl h ↦ let b' : nat_lt key (first_key (page_pairs bytes (link_of bytes page))) ≡ true = h.0 in rw b (rw b' (low, chain.0))
            | inr h ↦
                let b' : nat_lt key (first_key (page_pairs bytes (link_of bytes page))) ≡ false = h.0 in
                rw b (rw b' (page_on_chain n bytes table (link_of bytes page) (behind low (page_pairs bytes page)) key (chain.1 more.1)))
          ]
    ]

pub key_page : (bytes : List ℕ) (root table key : ℕ) → chain_check bytes root table None → (l : ℕ) × IsChainPage table bytes (page_of_key bytes root key) l
key_page bytes root table key sound = page_on_chain (next_page bytes) bytes table root 0 key (pages_of_sound bytes root table sound)

pub key_page_linked : (bytes : List ℕ) (root table pages key : ℕ) → IsSuper 0 bytes → chain_check bytes root table None → first_slot_page bytes ≡ pages → IsLinked pages (page_bytes bytes (page_of_key bytes root key))
key_page_linked bytes root table pages key front sound is = let at = key_page bytes root table key sound in page_linked bytes table pages (page_of_key bytes root key) at.0 front is at.1
