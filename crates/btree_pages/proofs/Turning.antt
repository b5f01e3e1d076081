-- The way of a look for the next pairs: down to a key's leaf, and from there, if it has none and another leaf comes after it, on to that one.
use Rattle.std.proofs.Common.{◌≡◌, ◌≢◌, ℕ, ◌<◌, ◌≤◌, Bool, true, false, List, [], ◌∷◌, ◌++◌, length, Option, Some, None, Result, Ok, Err, refl, sym, ◌∙◌, ap, subst, arith}
use Rattle.std.specs.Prelude.{if◌then◌else◌, IfOk, IfErr}
use Rattle.std.proofs.lemmas.List.{length-append}
use Rattle.std.proofs.lemmas.Bool.Decides.{nat_tests}
use Rattle.eaw_face.specs.Command.{Command}
use Rattle.eaw_face.specs.StoreView.{StoreView}
use Rattle.page_store.specs.Course.{Reading, IsWay}
use Rattle.page_store.specs.Follows.{HasRead, Walks, Follows, IsLast}
use Rattle.page_store.specs.Looks.{IsStill}
use Rattle.page_store.specs.Pairs.{Pair, found}
use Rattle.page_store.specs.declared.fault.PageFault.{PageFault}
use Rattle.page_store.specs.declared.fault.PageFault.TheVariants.{LogFull, SavesFull, Media, Dead, Damaged}
use Rattle.index_pages.specs.Keys.{from_on}
use Rattle.index_pages.specs.Page.{level_said, pairs_said}
use Rattle.index_pages.proofs.Courses.{reads_then}
use Rattle.btree_laws.specs.Descent.{child_for}
use Rattle.btree_pages.specs.Downward.{down, down_and_on, entry_from, behind_along, is_leaf, pairs_at, begun, rested, tree_nexting, slot_at, Descended, Gathered, tree_placing}
use Rattle.btree_pages.specs.Start.{entry_of}
use Rattle.btree_pages.specs.declared.look.Start.{Start}
use Rattle.btree_pages.specs.declared.look.Leaf.{Leaf}
use Rattle.btree_pages.specs.declared.look.Reached.{Reached}

-- a way goes on at no leaf
goes_on : (b : Bool) (child page : ℕ) → (if b then None else Some child) ≡ Some page → b ≡ false
goes_on true child page e = absurd (cc)
goes_on false child page e = refl

no_empty : (ps : List Pair) (n : ℕ) → length ps ≡ n → 1 ≤ n → begun ps ≡ Some ps
no_empty [] n is some = absurd (omega arith)
no_empty (p ∷ ps) n is some = refl

rests_some : (ps : List Pair) (behind : Option Pair) → 1 ≤ length ps → rested ps behind ≡ Some ps
rests_some [] behind some = absurd (omega arith)
rests_some (p ∷ ps) behind some = refl

is_empty : (ps : List Pair) → length ps ≡ 0 → ps ≡ []
is_empty [] e = refl
is_empty (p ∷ ps) e = absurd (omega arith)

-- what a page says of its level
inner_said : (said : List ℕ) (level : ℕ) → level ≡ level_said said → level ≢ 0 → is_leaf said ≡ false
inner_said said level is inner = grind (arith, nat_tests, is, inner)

pub leaf_said : (said : List ℕ) (level : ℕ) → level ≡ level_said said → level ≡ 0 → is_leaf said ≡ true
leaf_said said level is leaf = grind (arith, nat_tests, is, leaf)

-- an inner page leads on
pub inner_leads : (root key page : ℕ) (said : List ℕ) (level child : ℕ) → level ≡ level_said said → level ≢ 0 → child ≡ child_for (pairs_said said) key → (read : List Reading) → down root key ((page, said) ∷ read) ≡ Some child
inner_leads root key page said level child is inner leads read = let b : is_leaf said ≡ false = inner_said said level is inner in (rw b (ap Some (sym leads)))

-- the leaf of a key as a place for it
pub leaf_placed : (key : ℕ) (said : List ℕ) (leaf : Leaf) (read : List Reading) → Descended key said leaf read → tree_placing key read ≡ Some (record { page = leaf.page; link = 0; pairs = pairs_said said })
leaf_placed key said leaf [] there = absurd there
leaf_placed key said leaf (r ∷ rs) there = λ i. Some (record { page = there.0 i; link = 0; pairs = pairs_said (there.1 i) })

-- what the leaf of a key says
pub slot_is : (key : ℕ) (said : List ℕ) (leaf : Leaf) (read : List Reading) → Descended key said leaf read → slot_at key read ≡ Some (found (pairs_said said) key)
slot_is key said leaf [] there = absurd there
slot_is key said leaf (r ∷ rs) there =
    let b : is_leaf r.1 ≡ true = ap is_leaf there.1 ∙ there.2 in
    let is : slot_at key (r ∷ rs) ≡ Some (found (pairs_said r.1) key) = (rw b refl) in
    is ∙ ap (λ (bytes : List ℕ). Some (found (pairs_said bytes) key)) there.1

pub descended_last : (key : ℕ) (said : List ℕ) (leaf : Leaf) (read : List Reading) → Descended key said leaf read → IsLast read leaf.page
descended_last key said leaf [] there = absurd there
descended_last key said leaf (r ∷ rs) there = there.0

pub gathered_is : (from : ℕ) (said : List ℕ) (leaf : Leaf) (at : Reached) (read : List Reading) → Descended from said leaf read → at.page ≡ leaf.page → at.behind ≡ leaf.behind → at.some.items ≡ from_on (pairs_said said) from → Gathered from at read
gathered_is from said leaf at [] there page same items = absurd there
gathered_is from said leaf at (r ∷ rs) there page same items =
    (there.0 ∙ sym page, ap is_leaf there.1 ∙ there.2, items ∙ ap (λ (bytes : List ℕ). from_on (pairs_said bytes) from) (sym there.1), ap entry_of same ∙ there.3)

module _ (root from : ℕ) where
  -- before the first leaf no look has gone on
  inner_low : (read : List Reading) (page : ℕ) → IsWay (down root from) read → down root from read ≡ Some page → entry_from from read ≡ None
  inner_low [] page way next = refl
  inner_low (r ∷ rs) page way next =
      let b : is_leaf r.1 ≡ false = goes_on (is_leaf r.1) (child_for (pairs_said r.1) from) page next in
      let ih : entry_from from rs ≡ None = inner_low rs r.0 way.1 way.0 in
      (rw (b, ih) refl)

  first_step : (read : List Reading) (page : ℕ) → IsWay (down root from) read → down root from read ≡ Some page → down_and_on root from read ≡ Some page
  first_step [] page way next = next
  first_step (r ∷ rs) page way next =
      let b : is_leaf r.1 ≡ false = goes_on (is_leaf r.1) (child_for (pairs_said r.1) from) page next in
      let low : entry_from from rs ≡ None = inner_low rs r.0 way.1 way.0 in
      let child : Some (child_for (pairs_said r.1) from) ≡ Some page = (rw b at next) in
      (rw (low, b) child)

  -- the first way down is one of both
  pub first_way : (read : List Reading) → IsWay (down root from) read → IsWay (down_and_on root from) read
  first_way [] way = tt
  first_way (r ∷ rs) way = (first_step rs r.0 way.1 way.0, first_way rs way.1)

  -- what its leaf answers
  first_answer : (r : Reading) (rs : List Reading) → IsWay (down root from) (r ∷ rs) → is_leaf r.1 ≡ true → pairs_at from (r ∷ rs) ≡ rested (from_on (pairs_said r.1) from) (behind_along from rs)
  first_answer r rs way leaf =
      let low : entry_from from rs ≡ None = inner_low rs r.0 way.1 way.0 in
      (rw (leaf, low) refl)

  pub some_answer : (at : Reached) (read : List Reading) → IsWay (down root from) read → Gathered from at read → 1 ≤ length at.some.items → pairs_at from read ≡ Some at.some.items
  some_answer at [] way there some = absurd there
  some_answer at (r ∷ rs) way there some =
      first_answer r rs way there.1 ∙ ap (λ (ps : List Pair). rested ps (behind_along from rs)) (sym there.2) ∙ rests_some at.some.items (behind_along from rs) some

  pub end_answer : (at : Reached) (read : List Reading) → IsWay (down root from) read → Gathered from at read → length at.some.items ≡ 0 → at.behind ≡ None → pairs_at from read ≡ Some at.some.items
  end_answer at [] way there none last = absurd there
  end_answer at (r ∷ rs) way there none last =
      let empty : at.some.items ≡ [] = is_empty at.some.items none in
      let pairs : from_on (pairs_said r.1) from ≡ [] = sym there.2 ∙ empty in
      let behind : behind_along from rs ≡ None = sym there.3 ∙ ap entry_of last in
      first_answer r rs way there.1 ∙ ap (λ (ps : List Pair). rested ps (behind_along from rs)) pairs ∙ ap (λ (o : Option Pair). rested [] o) behind ∙ ap Some (sym empty)

  -- the look goes on from a leaf without pairs
  module _ (start : Start) (at : Reached) (none : length at.some.items ≡ 0) (bound : at.behind ≡ Some start) where
    abbrev entry : Pair
    entry = (start.key, start.page)

    goes_entry : (read : List Reading) → IsWay (down root from) read → Gathered from at read → entry_from from read ≡ Some entry
    goes_entry [] way there = absurd there
    goes_entry (r ∷ rs) way there =
        let before : entry_from from rs ≡ None = inner_low rs r.0 way.1 way.0 in
        let leaf : is_leaf r.1 ≡ true = there.1 in
        let pairs : from_on (pairs_said r.1) from ≡ [] = sym there.2 ∙ is_empty at.some.items none in
        let behind : behind_along from rs ≡ Some entry = sym there.3 ∙ ap entry_of bound in
        (rw (before, leaf, pairs) behind)

    goes_page : (read : List Reading) → IsWay (down root from) read → Gathered from at read → down_and_on root from read ≡ Some start.page
    goes_page [] way there = absurd there
    goes_page (r ∷ rs) way there =
        let before : entry_from from rs ≡ None = inner_low rs r.0 way.1 way.0 in
        let leaf : is_leaf r.1 ≡ true = there.1 in
        let pairs : from_on (pairs_said r.1) from ≡ [] = sym there.2 ∙ is_empty at.some.items none in
        let behind : behind_along from rs ≡ Some entry = sym there.3 ∙ ap entry_of bound in
        (rw (before, leaf, pairs, behind) refl)

    entry_stays : (later first : List Reading) → entry_from from first ≡ Some entry → entry_from from (later ++ first) ≡ Some entry
    entry_stays [] first is = is
    entry_stays (r ∷ rs) first is = let ih : entry_from from (rs ++ first) ≡ Some entry = entry_stays rs first is in (rw ih refl)

    second_step : (later first : List Reading) (page : ℕ) → entry_from from first ≡ Some entry → down_and_on root from first ≡ Some start.page → down start.page start.key later ≡ Some page → down_and_on root from (later ++ first) ≡ Some page
    second_step [] first page is to next = to ∙ next
    second_step (r ∷ rs) first page is to next = let ih : entry_from from (rs ++ first) ≡ Some entry = entry_stays rs first is in (rw ih next)

    second_way : (later first : List Reading) → entry_from from first ≡ Some entry → down_and_on root from first ≡ Some start.page → IsWay (down_and_on root from) first → IsWay (down start.page start.key) later → IsWay (down_and_on root from) (later ++ first)
    second_way [] first is to one two = one
    second_way (r ∷ rs) first is to one two = (second_step rs first r.0 is to two.0, second_way rs first is to one two.1)

    second_answer : (behind : Reached) (later first : List Reading) → entry_from from first ≡ Some entry → Gathered start.key behind later → 1 ≤ length behind.some.items → pairs_at from (later ++ first) ≡ Some behind.some.items
    second_answer behind [] first is there some = absurd there
    second_answer behind (r ∷ rs) first is there some =
        let ih : entry_from from (rs ++ first) ≡ Some entry = entry_stays rs first is in
        let leaf : is_leaf r.1 ≡ true = there.1 in
        let e : pairs_at from (r ∷ (rs ++ first)) ≡ begun (from_on (pairs_said r.1) start.key) = (rw (leaf, ih) refl) in
        e ∙ ap begun (sym there.2) ∙ no_empty behind.some.items (length behind.some.items) refl some

    last_later : (behind : Reached) (later first : List Reading) → Gathered start.key behind later → IsLast (later ++ first) behind.page
    last_later behind [] first there = absurd there
    last_later behind (r ∷ rs) first there = there.0

    module _ {T : Type 0} (items : T → List Pair) (tells : Bool) (calls calls_mid calls_now : Command → ℕ) (old mid new : StoreView) (still : IsStill tells old mid) (shape : mid.shape ≡ old.shape) (fewer : start.most < 8)
        (one : (let r : Result Reached PageFault = Ok at in Walks tells calls calls_mid (down root from) 8 (Gathered from) old mid r)) where
      is_entry : entry_from from one.read ≡ Some entry
      is_entry = goes_entry one.read one.way one.ends

      to_page : down_and_on root from one.read ≡ Some start.page
      to_page = goes_page one.read one.way one.ends

      way_then : (later : List Reading) → IsWay (down start.page start.key) later → IsWay (down_and_on root from) (later ++ one.read)
      way_then later two = second_way later one.read is_entry to_page (first_way one.read one.way) two

      reads_on : (failed : Bool) (later : List Reading) → HasRead tells failed calls_mid calls_now mid new later → HasRead tells failed calls calls_now old new (later ++ one.read)
      reads_on failed later two = reads_then tells failed calls calls_mid calls_now old mid new one.read later still shape one.reads two

      few_then : (later : List Reading) → length later ≤ start.most → length (later ++ one.read) ≤ 15
      few_then later two = omega (arith, length-append later one.read, one.few, two, fewer)

      -- the second way down is refused
      pub again_err : (fault : PageFault) → (let r : Result Reached PageFault = Err fault in Walks tells calls_mid calls_now (down start.page start.key) start.most (Gathered start.key) mid new r)
          → (let s : Result T PageFault = Err fault in Follows tells calls calls_now (tree_nexting root from) items old new s)
      again_err Media two = record { read = two.read ++ one.read; reads = reads_on true two.read two.reads; way = way_then two.read two.way; few = few_then two.read two.few; ends = tt; blames = tt }
      again_err Dead two = record { read = two.read ++ one.read; reads = reads_on false two.read two.reads; way = way_then two.read two.way; few = few_then two.read two.few; ends = tt; blames = tt }
      again_err (Damaged bad) two = record { read = two.read ++ one.read; reads = reads_on false two.read two.reads; way = way_then two.read two.way; few = few_then two.read two.few; ends = tt; blames = last_read bad two.read one.read two.blames }
        where
          last_read : (bad : ℕ) (later first : List Reading) → IsLast later bad → IsLast (later ++ first) bad
          last_read bad [] first last = absurd last
          last_read bad (r ∷ rs) first last = last
      again_err (LogFull g h n) two = record { read = two.read ++ one.read; reads = reads_on false two.read two.reads; way = way_then two.read two.way; few = few_then two.read two.few; ends = tt; blames = tt }
      again_err SavesFull two = record { read = two.read ++ one.read; reads = reads_on false two.read two.reads; way = way_then two.read two.way; few = few_then two.read two.few; ends = tt; blames = tt }

      -- it is done, and its leaf has some, or is damaged
      pub again_ok : (behind : Reached) → (let r : Result Reached PageFault = Ok behind in Walks tells calls_mid calls_now (down start.page start.key) start.most (Gathered start.key) mid new r)
          → (s : Result T PageFault) → IfOk s (λ some. (items some ≡ behind.some.items) × (1 ≤ length (items some))) → IfErr s (λ fault. (fault ≡ Damaged behind.page) × (behind.some.items ≡ []))
          → Follows tells calls calls_now (tree_nexting root from) items old new s
      again_ok behind two (Ok some) is none =
          let same : items some ≡ behind.some.items = is.0 in
          record {
            read = two.read ++ one.read;
            reads = reads_on false two.read two.reads;
            way = way_then two.read two.way;
            few = few_then two.read two.few;
            ends = second_answer behind two.read one.read is_entry two.ends (omega (arith, is.1, ap (λ (ps : List Pair). length ps) same)) ∙ ap Some (sym same);
            blames = tt;
          }
      again_ok behind two (Err fault) is none =
          subst (λ (f : PageFault). (let s : Result T PageFault = Err f in Follows tells calls calls_now (tree_nexting root from) items old new s)) (sym none.0)
          (record {
            read = two.read ++ one.read;
            reads = reads_on false two.read two.reads;
            way = way_then two.read two.way;
            few = few_then two.read two.few;
            ends = tt;
            blames = last_later behind two.read one.read two.ends;
          })

pub begun_items : {T : Type 0} (s : Result T PageFault) (x : T) (items : T → List Pair) → IfOk s (λ some. (some ≡ x) × (1 ≤ length (items some))) → IfOk s (λ some. (items some ≡ items x) × (1 ≤ length (items some)))
begun_items (Ok some) x items is = (ap items is.0, is.1)
begun_items (Err fault) x items is = tt
