-- On the way to the page that a key is in or goes into.
use Rattle.std.proofs.Common.{◌≡◌, ◌≢◌, ℕ, suc, ◌+◌, ◌<◌, ◌≤◌, Bool, true, false, nat_eq, nat_le, inl, inr, List, [], ◌∷◌, length, Option, Some, None, Result, Ok, Err, refl, sym, ◌∙◌, ap, arith}
use Rattle.std.specs.Prelude.{is_some, ◌||◌}
use Rattle.std.proofs.lemmas.Bool.{cases_lt}
use Rattle.std.proofs.lemmas.Bool.Decides.{nat_tests}
use Rattle.eaw_face.specs.Command.{Command}
use Rattle.eaw_face.specs.StoreView.{StoreView}
use Rattle.page_store.specs.Course.{Reading, IsWay}
use Rattle.page_store.specs.Follows.{HasRead, Walks, IsLast}
use Rattle.page_store.specs.Looks.{IsStill}
use Rattle.page_store.specs.Pairs.{Pair, next}
use Rattle.page_store.specs.declared.fault.PageFault.{PageFault}
use Rattle.page_store.specs.declared.fault.PageFault.TheVariants.{Damaged}
use Rattle.index_pages.specs.Page.{link_said, pairs_said}
use Rattle.index_pages.proofs.Courses.{OnCourse, reads_then, on_end}
use Rattle.key_list.specs.Along.{along, answered, ends_at, is_past, led_to, stay, Stays}
use Rattle.key_list.specs.Chain.{first_key}
use Rattle.key_list.specs.declared.look.KeyPage.{KeyPage}
use Rattle.key_list.proofs.Ends.{led_past}

-- a way that does not end at a page finds no pair there, and a link
pub ends_none : (key : ℕ) (said : List ℕ) → ends_at key said ≡ false → next (pairs_said said) key ≡ None
ends_none key said goes = none_of (next (pairs_said said) key) (nat_eq (link_said said) 0) goes
  where
    none_of : (o : Option Pair) (b : Bool) → (is_some o || b) ≡ false → o ≡ None
    none_of None b goes = refl
    none_of (Some p) b goes = absurd (cc)

pub ends_linked : (key : ℕ) (said : List ℕ) → ends_at key said ≡ false → link_said said ≢ 0
ends_linked key said goes none = linked_of (next (pairs_said said) key) goes (grind (arith, nat_tests, none))
  where
    linked_of : (o : Option Pair) → (is_some o || nat_eq (link_said said) 0) ≡ false → nat_eq (link_said said) 0 ≡ true → ⊥
    linked_of None goes none = (cc)
    linked_of (Some p) goes none = (cc)

-- it ends at one with a pair
ends_there : (key : ℕ) (said : List ℕ) (p : Pair) → next (pairs_said said) key ≡ Some p → ends_at key said ≡ true
ends_there key said p some = (rw some refl)

-- pairs that begin above a key
pub next_above : (ps : List Pair) (key : ℕ) → 1 ≤ length ps → key < first_key ps → (p : Pair) × (next ps key ≡ Some p) × (key < p.0)
next_above [] key some lt = absurd (omega (arith, some))
next_above (p ∷ ps) key some lt = let b : nat_le key p.0 ≡ true = grind (arith, nat_tests, lt) in (p, (rw b refl), lt)

pub begins_past : (ps : List Pair) (key : ℕ) → 1 ≤ length ps → key < first_key ps → is_past key ps ≡ true
begins_past [] key some lt = absurd (omega (arith, some))
begins_past (p ∷ ps) key some lt = grind (arith, nat_tests, lt)

pub begins_below : (ps : List Pair) (key : ℕ) → (1 ≤ length ps → key < first_key ps → ⊥) → is_past key ps ≡ false
begins_below [] key not = refl
begins_below (p ∷ ps) key not = (let le : p.0 ≤ key = elim (cases_lt key p.0) [ inl lt ↦ absurd (not (omega arith) lt) | inr le ↦ le ] in grind (arith, nat_tests, le))

-- So many pages of the way of a key were read, each as it was to be, and this one last, with what it said.
pub record OnAlong (tells : Bool) (calls calls_now : Command → ℕ) (root key steps page : ℕ) (said : List ℕ) (old new : StoreView) : Type 0 where
  pub before : List Reading
  pub reads : HasRead tells false calls calls_now old new ((page, said) ∷ before)
  pub way : IsWay (along root key) ((page, said) ∷ before)
  pub count : suc (length before) ≡ steps
  pub here : stay key ((page, said) ∷ before) ≡ Some (page, said)

pub along_first : (tells : Bool) (calls calls_now : Command → ℕ) (root key : ℕ) (said : List ℕ) (old new : StoreView) → HasRead tells false calls calls_now old new ((root, said) ∷ []) → OnAlong tells calls calls_now root key 1 root said old new
along_first tells calls calls_now root key said old new reads = record { before = []; reads = reads; way = (refl, tt); count = refl; here = refl }

answer_stays : (key page : ℕ) (said : List ℕ) (before : List Reading) → ends_at key said ≡ true → answered (λ pairs. led_to key (next pairs key)) key ((page, said) ∷ before) ≡ Some (led_to key (next (pairs_said said) key))
answer_stays key page said before ends = (rw ends refl)

module _ (tells : Bool) (calls calls_mid : Command → ℕ) (root key steps page : ℕ) (said : List ℕ) (old mid : StoreView) (on : OnAlong tells calls calls_mid root key steps page said old mid) where
  -- the way goes on to the link
  abbrev pub along_on : (link : ℕ) → ends_at key said ≡ false → link ≡ link_said said → OnCourse tells calls calls_mid (along root key) steps link page old mid
  along_on link goes is = record {
    read = (page, said) ∷ on.before;
    reads = on.reads;
    way = on.way;
    count = omega (arith, on.count);
    next = (rw goes (ap Some (sym is)));
    last_is = λ some. refl;
  }

  -- the way ends here
  pub along_ends : (most : ℕ) (at : KeyPage) → at.page ≡ page → ends_at key said ≡ true → steps ≤ most → (let r : Result KeyPage PageFault = Ok at in Walks tells calls calls_mid (along root key) most (Stays key said) old mid r)
  along_ends most at same ends few = record {
    read = (page, said) ∷ on.before;
    reads = on.reads;
    way = on.way;
    few = omega (arith, on.count, few);
    ends = record { answer = answer_stays key page said on.before ends; last = λ some. sym same; met = inl same; place = on.here ∙ ap (λ (p : ℕ). Some (p, said)) (sym same) };
    blames = tt;
  }

  -- it leads on, but no more may be read; or the page is not one that may be
  pub along_out : (T : Type 0) (most : ℕ) (Ends : T → List Reading → Type 0) → steps ≤ most → Walks tells calls calls_mid (along root key) most Ends old mid (Err (Damaged page))
  along_out T most Ends few = record { read = (page, said) ∷ on.before; reads = on.reads; way = on.way; few = omega (arith, on.count, few); ends = tt; blames = refl }

  module _ (calls_now : Command → ℕ) (new : StoreView) (still : IsStill tells old mid) (shape : mid.shape ≡ old.shape) (link : ℕ) (goes : ends_at key said ≡ false) (is : link ≡ link_said said)
      (ahead : List ℕ) (reads : HasRead tells false calls_mid calls_now mid new ((link, ahead) ∷ [])) where
    -- the page that follows was read
    pub along_more : is_past key (pairs_said ahead) ≡ false → OnAlong tells calls calls_now root key (steps + 1) link ahead old new
    along_more kept = record {
      before = (page, said) ∷ on.before;
      reads = reads_then tells false calls calls_mid calls_now old mid new ((page, said) ∷ on.before) ((link, ahead) ∷ []) still shape on.reads reads;
      way = ((rw goes (ap Some (sym is))), on.way);
      count = omega (arith, on.count);
      here = (rw kept refl);
    }

    -- its pairs begin above the key, which stays in the page before
    pub along_past : (most : ℕ) (at : KeyPage) → at.page ≡ page → 1 ≤ length (pairs_said ahead) → key < first_key (pairs_said ahead) → steps < most → (let r : Result KeyPage PageFault = Ok at in Walks tells calls calls_now (along root key) most (Stays key said) old new r)
    along_past most at same some lt few =
        let p = next_above (pairs_said ahead) key some lt in
        let none = ends_none key said goes in
        let answer : answered (λ pairs. led_to key (next pairs key)) key ((link, ahead) ∷ (page, said) ∷ on.before) ≡ Some (led_to key (next (pairs_said said) key)) =
        answer_stays key link ahead ((page, said) ∷ on.before) (ends_there key ahead p.0 p.1)
        ∙ ap (λ (o : Option Pair). Some (led_to key o)) p.1 ∙ ap Some (led_past key p.0 (λ e. omega (arith, e, p.2))) ∙ sym (ap (λ (o : Option Pair). Some (led_to key o)) none) in
        let past : is_past key (pairs_said ahead) ≡ true = begins_past (pairs_said ahead) key some lt in
        let stays_before : stay key ((link, ahead) ∷ (page, said) ∷ on.before) ≡ Some (at.page, said) = (rw past (ap (λ (p : ℕ). Some (p, said)) (sym same))) in
        on_end tells calls calls_mid calls_now (along root key) steps link page old mid new still shape (along_on link goes is) most (Stays key said) ahead at few reads
        (record { answer = answer; last = λ there. absurd (there none); met = inr (inl same); place = stays_before })
