-- A nested top action, command by command.
use Rattle.std.proofs.Common.{◌≡◌, ◌≢◌, ℕ, zero, suc, ◌+◌, ◌*◌, ◌/◌, ◌%◌, ◌<◌, ◌≤◌, Bool, true, false, nat_eq, ◌⊎◌, inl, inr, List, [], ◌∷◌, ◌++◌, length, take, Option, Some, None, Result, Ok, Err, refl, sym, ◌∙◌, ap, subst, arith}
use Rattle.std.specs.Prelude.{IsTrue, filter, is_some, if◌then◌else◌}
use Rattle.std.specs.Option.{option_map}
use Rattle.std.proofs.lemmas.Bool.{false≢true}
use Rattle.std.proofs.lemmas.Bool.Decides.{eqb_tells}
use Rattle.std.proofs.lemmas.List.{length-append, take-append-le, take_all}
use Rattle.mars_base.specs.Causes.{Rose}
use Rattle.mars_base.proofs.Going.{stays, then, weaker}
use Rattle.array_shape.specs.declared.shape.Shape.{Shape}
use Rattle.array_shape.specs.Logged.{Part, applied, AllPlaced, ranges_of}
use Rattle.eaw_face.specs.State.{listed, count_on, is_range_on}
use Rattle.eaw_face.specs.StoreView.{StoreView, LeavesOnly}
use Rattle.eaw_face.specs.Mirroring.{Mirrors}
use Rattle.eaw_face.proofs.Mirroring.{none_sent, sent_then}
use Rattle.eaw_face.proofs.Rooms.{first_unfit}
use Rattle.eaw_face.specs.Causes.{IsAlive}
use Rattle.page_store.specs.State.{PagesState, log_of, with_one}
use Rattle.page_store.specs.Command.{PageCommand, write_as, top_begin, top_end, after}
use Rattle.page_store.specs.Does.{Does, Becomes}
use Rattle.page_store.specs.Edit.{edit_pos, with_range}
use Rattle.page_store.specs.Fits.{FitAll, LacksRoom, is_page_on}
use Rattle.page_store.specs.Kept.{IsKept, IsOrdered}
use Rattle.page_store.specs.Outline.{Outline, floor_in}
use Rattle.page_store.specs.Played.{played, writes_as, top_of}
use Rattle.page_store.specs.Shown.{PagesView, IsInPage, outline_of, state_of, address}
use Rattle.page_store.specs.declared.fault.PageFault.{PageFault}
use Rattle.page_store.specs.declared.fault.PageFault.TheVariants.{LogFull, SavesFull, Media, Dead, Damaged}
use Rattle.page_store.proofs.Outline.{listed-ranges}
use Rattle.page_store.proofs.Shown.{IsTold, kept}
use Rattle.page_store.proofs.Numbers.{with_here, with_there}
use Rattle.page_store.proofs.Tops.{top_of_data, top_of_list, top_of_other}
use Rattle.index_pages.specs.Acts.{Acts}

-- one more write is played after the others
played_more : (t : ℕ) (ps : List Part) (p : Part) (s : PagesState) → played (writes_as t (ps ++ p ∷ [])) s ≡ after (write_as t p.0 p.1) (played (writes_as t ps) s)
played_more t [] p s = refl
played_more t (q ∷ qs) p s = played_more t qs p (after (write_as t q.0 q.1) s)

played_data : (t : ℕ) (ps : List Part) (s : PagesState) → (played (writes_as t ps) s).store.bytes ≡ s.store.bytes
played_data t [] s = refl
played_data t (q ∷ qs) s = played_data t qs (after (write_as t q.0 q.1) s)

filter-append : {A : Type 0} (p : A → Bool) (xs ys : List A) → length (filter p (xs ++ ys)) ≡ length (filter p xs) + length (filter p ys)
filter-append p [] ys = omega arith
filter-append p (x ∷ xs) ys = go (p x) refl (filter-append p xs ys)
  where
    go : (b : Bool) → p x ≡ b → length (filter p (xs ++ ys)) ≡ length (filter p xs) + length (filter p ys) → length (filter p (x ∷ xs ++ ys)) ≡ length (filter p (x ∷ xs)) + length (filter p ys)
    go true e h = rw e (omega arith)
    go false e h = rw e h

-- a part in a page is on the logger that has the page
on_logger : (shape : Shape) (g page at len : ℕ) → at < 512 → is_range_on shape g (address page at, len) ≡ is_page_on shape.loggers g page
on_logger shape g page at len lt = ap (λ (n : ℕ). nat_eq (n % shape.loggers) g) (let e : (512 * page + at) / 512 ≡ page = omega arith in e)

one_on : {A B : Type 0} (p : A → Bool) (q : B → Bool) (a : A) (b : B) → p a ≡ q b → length (filter p (a ∷ [])) ≡ length (filter q (b ∷ []))
one_on p q a b e = go (p a) (q b) refl refl e
  where
    go : (x y : Bool) → p a ≡ x → q b ≡ y → p a ≡ q b → length (filter p (a ∷ [])) ≡ length (filter q (b ∷ []))
    go true true ex ey e = rw (ex, ey) refl
    go false false ex ey e = rw (ex, ey) refl
    go true false ex ey e = absurd (false≢true (sym ey ∙ sym e ∙ ex))
    go false true ex ey e = absurd (false≢true (sym ex ∙ e ∙ ey))

first_on : {A : Type 0} (p : A → Bool) (x : A) (xs : List A) → length (filter p (x ∷ xs)) ≡ length (filter p (x ∷ [])) + length (filter p xs)
first_on p x xs = filter-append p (x ∷ []) xs

take-none : (n : ℕ) → take {A = ℕ × ℕ} n [] ≡ []
take-none zero = refl
take-none (suc n) = refl

listed-take : (n : ℕ) (o : Option (List (ℕ × ℕ))) → listed (option_map (take n) o) ≡ take n (listed o)
listed-take n None = sym (take-none n)
listed-take n (Some rs) = refl

module _ (tells : Bool) (Opens : List ℕ → List ℕ → Type 0) (t : ℕ) where
  -- an action that is refused before it begins
  pub acts_none : (old : PagesView) (pages : List ℕ) (parts : List Part) (fault : PageFault) → LacksRoom old.store t pages fault → (let r : Result (Unit {0}) PageFault = Err fault in Acts tells Opens t pages parts old old r)
  acts_none old pages parts Media lacks = absurd lacks
  acts_none old pages parts SavesFull lacks = absurd lacks
  acts_none old pages parts (Damaged bad) lacks = absurd lacks
  acts_none old pages parts _ lacks = record {
    shape = refl;
    depth = refl;
    cause = lacks;
    saves = refl;
    others = λ u ne. refl;
    kept = λ well. record { dead = refl; faults = refl; tops = refl; ranges = λ u. refl; logs = λ told u. refl };
    made = λ told living. refl;
    dies = λ failed. absurd (false≢true failed);
    time = λ told living. weaker (λ image opens. inl opens) (stays old.store.moment old.store.left_since (λ image. Opens image old.store.state.bytes));
    mirrors = none_sent tells old.store old.store refl refl refl refl (λ fine. fine) (λ told mirrors fine. refl);
  }

  -- Within a top action that has begun: these parts were written, and in these pages a part each is still to be written.
  pub record Acting (old now : PagesView) (parts : List Part) (left : List ℕ) : Type 0 where
    pub shape : now.store.shape ≡ old.store.shape
    pub depth : now.store.depth ≡ old.store.depth
    pub mirrors : Mirrors tells old.store now.store
    pub alive : now.store.is_dead ≡ false
    pub faults : now.store.faults ≡ old.store.faults
    pub saves : now.counts ≡ old.counts
    pub tops : now.top ≡ with_one old.top t (Some (length (listed (old.store.ranges t))))
    pub others : (u : ℕ) → u ≢ t → now.store.ranges u ≡ old.store.ranges u
    pub front : take (length (listed (old.store.ranges t))) (listed (now.store.ranges t)) ≡ listed (old.store.ranges t)
    pub longer : length (listed (old.store.ranges t)) ≤ length (listed (now.store.ranges t))
    pub room : (g : ℕ) → g < old.store.shape.loggers → count_on old.store.shape g (listed (now.store.ranges t)) + length (filter (is_page_on old.store.shape.loggers g) left) ≤ old.store.shape.entries
    pub state : IsTrue tells → state_of now ≡ played (writes_as t parts) (after (top_begin t) (state_of old))
    pub time : IsTrue tells → LeavesOnly (λ image. Opens image old.store.state.bytes) old.store now.store

  -- when it begins
  pub acting_begin : (old now : PagesView) (pages : List ℕ) → IsAlive old.store → FitAll old.store t pages → Becomes tells (top_begin t) old now → now.store ≡ old.store → Acting old now [] pages
  acting_begin old now pages alive fits begun same =
      let ranges : (u : ℕ) → now.store.ranges u ≡ old.store.ranges u = λ u. ap (λ (s : StoreView). s.ranges u) same in
      record {
        shape = ap (λ (s : StoreView). s.shape) same;
        depth = ap (λ (s : StoreView). s.depth) same;
        mirrors = subst (λ (s : StoreView). Mirrors tells old.store s) (sym same) (none_sent tells old.store old.store refl refl refl refl (λ fine. fine) (λ told mirrors fine. refl));
        alive = begun.alive;
        faults = ap (λ (s : StoreView). s.faults) same;
        saves = ap (λ (o : Outline). o.counts) begun.outline;
        tops = ap (λ (o : Outline). o.top) begun.outline;
        others = λ u ne. ranges u;
        front = take_all (length (listed (old.store.ranges t))) (listed (now.store.ranges t)) (omega (arith, ap (λ (o : Option (List (ℕ × ℕ))). length (listed o)) (ranges t))) ∙ ap listed (ranges t);
        longer = omega (arith, ap (λ (o : Option (List (ℕ × ℕ))). length (listed o)) (ranges t));
        room = λ g lt. subst (λ (o : Option (List (ℕ × ℕ))). count_on old.store.shape g (listed o) + length (filter (is_page_on old.store.shape.loggers g) pages) ≤ old.store.shape.entries) (sym (ranges t)) (fits g lt);
        state = λ told. begun.state told;
        time = λ told. subst (λ (s : StoreView). LeavesOnly (λ image. Opens image old.store.state.bytes) old.store s) (sym same) (stays old.store.moment old.store.left_since (λ image. Opens image old.store.state.bytes));
      }

  -- while its parts are written, the data is as before
  acting_data : (old now : PagesView) (parts : List Part) (left : List ℕ) → Acting old now parts left → IsTrue tells → now.store.state.bytes ≡ old.store.state.bytes
  acting_data old now parts left acting told =
      ap (λ (s : PagesState). s.store.bytes) (acting.state told) ∙ played_data t parts (after (top_begin t) (state_of old))

  -- the medium failed in a call of an action
  acting_broken : (old now new : PagesView) (parts : List Part) (left : List ℕ) → Acting old now parts left → IsAlive old.store → (pages : List ℕ) (all : List Part) (call : PageCommand) → (let r : Result (Unit {0}) PageFault = Err Media in Does tells Opens call now new r)
      → ((u : ℕ) → u ≢ t → new.store.ranges u ≡ now.store.ranges u) → (IsTrue tells → LeavesOnly (λ image. Opens image old.store.state.bytes ⊎ Opens image (applied all old.store.state.bytes)) old.store new.store)
      → (let r : Result (Unit {0}) PageFault = Err Media in Acts tells Opens t pages all old new r)
  acting_broken old now new parts left acting alive pages all call does others time = record {
    shape = does.shape ∙ acting.shape;
    depth = does.depth ∙ acting.depth;
    mirrors = sent_then tells old.store now.store new.store acting.mirrors does.mirrors;
    cause = alive;
    saves = does.marks.0 ∙ acting.saves;
    others = λ u ne. others u ne ∙ acting.others u ne;
    kept = λ well. absurd (false≢true (sym well));
    made = λ told living. tt;
    dies = λ failed. (does.dies refl, subst (λ (n : ℕ). Rose n new.store.faults) acting.faults does.cause.2);
    time = λ told living. time told;
  }

  module _ (old now new : PagesView) (parts : List Part) (page : ℕ) (left : List ℕ) (at : ℕ) (bytes : List ℕ) (within : at < 512) (acting : Acting old now parts (page ∷ left)) where
    part : Part
    part = (address page at, bytes)

    -- one more part has room when it is due
    due : (g : ℕ) → length (filter (is_page_on old.store.shape.loggers g) (page ∷ left)) ≡ count_on old.store.shape g ((address page at, length bytes) ∷ []) + length (filter (is_page_on old.store.shape.loggers g) left)
    due g =
        let same = one_on (is_page_on old.store.shape.loggers g) (is_range_on old.store.shape g) page (address page at, length bytes) (sym (on_logger old.store.shape g page at (length bytes) within)) in
        omega (arith, first_on (is_page_on old.store.shape.loggers g) page left, same)

    room_behind : (o : Option ℕ) (rs : List (ℕ × ℕ)) (g : ℕ) → count_on old.store.shape g rs + length (filter (is_page_on old.store.shape.loggers g) (page ∷ left)) ≤ old.store.shape.entries
        → count_on old.store.shape g (if is_some o then rs else rs ++ (address page at, length bytes) ∷ []) + length (filter (is_page_on old.store.shape.loggers g) left) ≤ old.store.shape.entries
    room_behind None rs g room = omega (arith, room, due g, filter-append (is_range_on old.store.shape g) rs ((address page at, length bytes) ∷ []))
    room_behind (Some k) rs g room = omega (arith, room, due g)

    front_behind : (o : Option ℕ) (n : ℕ) (rs : List (ℕ × ℕ)) → n ≤ length rs → take n (if is_some o then rs else rs ++ (address page at, length bytes) ∷ []) ≡ take n rs
    front_behind None n rs le = take-append-le n rs ((address page at, length bytes) ∷ []) le
    front_behind (Some k) n rs le = refl

    longer_behind : (o : Option ℕ) (n : ℕ) (rs : List (ℕ × ℕ)) → n ≤ length rs → n ≤ length (if is_some o then rs else rs ++ (address page at, length bytes) ∷ [])
    longer_behind None n rs le = omega (arith, length-append rs ((address page at, length bytes) ∷ []))
    longer_behind (Some k) n rs le = le

    -- a part was written
    pub acting_write : (let r : Result (Unit {0}) PageFault = Ok tt in Does tells Opens (write_as t (address page at) bytes) now new r) → Acting old new (parts ++ (address page at, bytes) ∷ []) left
    acting_write does =
        let out = does.done.outline in
        let floor = floor_in (outline_of now) t in
        let rs = listed (now.store.ranges t) in
        let o = edit_pos (floor_in (outline_of now) t) (address page at, length bytes) (listed (now.store.ranges t)) in
        let ranges : listed (new.store.ranges t) ≡ with_range (floor_in (outline_of now) t) (address page at, length bytes) (listed (now.store.ranges t)) =
        ap (λ (x : Outline). listed (x.ranges t)) out ∙ ap listed (with_here now.store.ranges t (Some (with_range (floor_in (outline_of now) t) (address page at, length bytes) (listed (now.store.ranges t))))) in
        record {
          shape = does.shape ∙ acting.shape;
          depth = does.depth ∙ acting.depth;
          mirrors = sent_then tells old.store now.store new.store acting.mirrors does.mirrors;
          alive = does.done.alive;
          faults = does.kept ∙ acting.faults;
          saves = ap (λ (x : Outline). x.counts) out ∙ acting.saves;
          tops = ap (λ (x : Outline). x.top) out ∙ acting.tops;
          others = λ u ne. does.others u ne ∙ acting.others u ne;
          front = ap (take (length (listed (old.store.ranges t)))) ranges ∙ front_behind o (length (listed (old.store.ranges t))) rs acting.longer ∙ acting.front;
          longer = subst (λ (l : List (ℕ × ℕ)). length (listed (old.store.ranges t)) ≤ length l) (sym ranges) (longer_behind o (length (listed (old.store.ranges t))) rs acting.longer);
          room = λ g lt. subst (λ (l : List (ℕ × ℕ)). count_on old.store.shape g l + length (filter (is_page_on old.store.shape.loggers g) left) ≤ old.store.shape.entries) (sym ranges) (room_behind o rs g (acting.room g lt));
          state = λ told. does.done.state told ∙ ap (after (write_as t (address page at) bytes)) (acting.state told) ∙ sym (played_more t parts (address page at, bytes) (after (top_begin t) (state_of old)));
          time = λ told. (then) (acting.time told)
              (weaker (λ image either. elim either [ inl before ↦ subst (λ (b : List ℕ). Opens image b) (acting_data old now parts (page ∷ left) acting told) before | inr behind ↦ subst (λ (b : List ℕ). Opens image b) (acting_data old now parts (page ∷ left) acting told) behind ]) (does.time told acting.alive));
        }

    -- a part was not written: the medium failed
    pub acting_fail : (fault : PageFault) → IsAlive old.store → (pages : List ℕ) (all : List Part)
        → (let r : Result (Unit {0}) PageFault = Err fault in Does tells Opens (write_as t (address page at) bytes) now new r) → (let r : Result (Unit {0}) PageFault = Err fault in Acts tells Opens t pages all old new r)
    acting_fail Media alive pages all does =
        acting_broken old now new parts (page ∷ left) acting alive pages all (write_as t (address page at) bytes) does (λ u ne. does.others u ne)
        (λ told. (then) (weaker (λ image opens. inl opens) (acting.time told))
        (weaker (λ image either. elim either [ inl before ↦ inl (subst (λ (b : List ℕ). Opens image b) (acting_data old now parts (page ∷ left) acting told) before) | inr behind ↦ inl (subst (λ (b : List ℕ). Opens image b) (acting_data old now parts (page ∷ left) acting told) behind) ]) (does.time told acting.alive)))
    acting_fail Dead alive pages all does = absurd (false≢true (sym acting.alive ∙ does.cause))
    acting_fail (LogFull g h n) alive pages all does =
        let full = first_unfit now.store.shape (listed (now.store.ranges t)) ((address page at, length bytes) ∷ []) g h n does.cause.1.1 in
        let shape = acting.shape in
        let logger : g < old.store.shape.loggers = subst (λ (s : Shape). g < s.loggers) shape full.logger in
        let held : h ≡ count_on old.store.shape g (listed (now.store.ranges t)) = subst (λ (s : Shape). h ≡ count_on s g (listed (now.store.ranges t))) shape full.held_is in
        let needed : n ≡ count_on old.store.shape g ((address page at, length bytes) ∷ []) = subst (λ (s : Shape). n ≡ count_on s g ((address page at, length bytes) ∷ [])) shape full.needed_is in
        let over : old.store.shape.entries < h + n = subst (λ (s : Shape). s.entries < h + n) shape full.full in
        absurd (omega (arith, acting.room g logger, due g, held, needed, over))
    acting_fail SavesFull alive pages all does = absurd does.cause.1
    acting_fail (Damaged bad) alive pages all does = absurd does.cause

  module _ (old now new : PagesView) (parts : List Part) (acting : Acting old now parts []) (alive : IsAlive old.store) (closed : old.top t ≡ None) (pages : List ℕ) (fits : FitAll old.store t pages) (mark : ℕ)
      (mark_is : mark ≡ length (listed (old.store.ranges t))) (placed : AllPlaced old.store.shape parts)
      (known : IsTrue tells → IsKept old.store.shape (state_of old) × (length (log_of (state_of old) t) ≡ length (listed (old.store.ranges t)))) where
    whole : IsTrue tells → after (top_end t mark) (state_of now) ≡ top_of t parts (state_of old)
    whole told =
        ap (after (top_end t mark)) (acting.state told)
        ∙ ap (λ (n : ℕ). after (top_end t n) (played (writes_as t parts) (after (top_begin t) (state_of old)))) (mark_is ∙ sym (known told).1)

    written : IsTrue tells → (after (top_end t mark) (state_of now)).store.bytes ≡ applied parts old.store.state.bytes
    written told = ap (λ (s : PagesState). s.store.bytes) (whole told) ∙ top_of_data old.store.shape (state_of old) (known told).0 t parts placed

    passes : IsTrue tells → LeavesOnly (λ image. (Opens image now.store.state.bytes) ⊎ (Opens image (after (top_end t mark) (state_of now)).store.bytes)) now.store new.store
        → LeavesOnly (λ image. (Opens image old.store.state.bytes) ⊎ (Opens image (applied parts old.store.state.bytes))) old.store new.store
    passes told time = (then) (weaker (λ image opens. inl opens) (acting.time told))
        (weaker (λ image either. elim either [
          | inl before ↦ inl (subst (λ (b : List ℕ). Opens image b) (acting_data old now parts [] acting told) before)
          | inr behind ↦ inr (subst (λ (b : List ℕ). Opens image b) (written told) behind)
        ]) time)

    log_behind : IsTrue tells → (u : ℕ) → log_of (top_of t parts (state_of old)) u ≡ log_of (state_of old) u
    log_behind told u = elim (eqb_tells u t) [
      | inl same ↦ subst (λ (x : ℕ). log_of (top_of t parts (state_of old)) x ≡ log_of (state_of old) x) (sym same.1) (top_of_list old.store.shape (state_of old) (known told).0 t parts placed)
      | inr other ↦ top_of_other (state_of old) t parts u other.1
    ]

    -- the action has ended, or the medium failed
    pub acting_end : (r : Result (Unit {0}) PageFault) → Does tells Opens (top_end t mark) now new r → Acts tells Opens t pages parts old new r
    acting_end (Ok answer) does =
        let out = does.done.outline in
        let top : (u : ℕ) → new.top u ≡ old.top u = λ u. elim (eqb_tells u t) [
          | inl same ↦ subst (λ (x : ℕ). new.top x ≡ old.top x) (sym same.1) (ap (λ (o : Outline). o.top t) out ∙ with_here now.top t None ∙ sym closed)
          | inr other ↦ ap (λ (o : Outline). o.top u) out ∙ with_there now.top t None u other.1 ∙ ap (λ (f : ℕ → Option ℕ). f u) acting.tops ∙ with_there old.top t (Some (length (listed (old.store.ranges t)))) u other.1
        ] in
        let ranges : (u : ℕ) → listed (new.store.ranges u) ≡ listed (old.store.ranges u) = λ u. elim (eqb_tells u t) [
          | inl same ↦ subst (λ (x : ℕ). listed (new.store.ranges x) ≡ listed (old.store.ranges x)) (sym same.1)
              (ap (λ (o : Outline). listed (o.ranges t)) out ∙ ap listed (with_here now.store.ranges t (option_map (take mark) (now.store.ranges t)))
              ∙ listed-take mark (now.store.ranges t) ∙ ap (λ (n : ℕ). take n (listed (now.store.ranges t))) mark_is ∙ acting.front)
          | inr other ↦ ap listed (does.others u other.1 ∙ acting.others u other.1)
        ] in
        record {
          shape = does.shape ∙ acting.shape;
          depth = does.depth ∙ acting.depth;
          mirrors = sent_then tells old.store now.store new.store acting.mirrors does.mirrors;
          cause = (alive, fits);
          saves = ap (λ (o : Outline). o.counts) out ∙ acting.saves;
          others = λ u ne. does.others u ne ∙ acting.others u ne;
          kept = λ well. record {
            dead = does.done.alive ∙ sym alive;
            faults = does.kept ∙ acting.faults;
            tops = λ i u. top u i;
            ranges = ranges;
            logs = λ told u. ap (λ (s : PagesState). log_of s u) (does.done.state told ∙ whole told) ∙ log_behind told u;
          };
          made = λ told living. ap (λ (s : PagesState). s.store.bytes) (does.done.state told) ∙ written told;
          dies = λ failed. absurd (false≢true failed);
          time = λ told living. passes told (does.time told acting.alive);
        }
    acting_end (Err Media) does = acting_broken old now new parts [] acting alive pages parts (top_end t mark) does (λ u ne. does.others u ne) (λ told. passes told (does.time told acting.alive))
    acting_end (Err Dead) does = absurd (false≢true (sym acting.alive ∙ does.cause))
    acting_end (Err (LogFull g h n)) does = absurd does.cause.1
    acting_end (Err SavesFull) does = absurd does.cause.1
    acting_end (Err (Damaged bad)) does = absurd does.cause

length-ranges_of : (ps : List Part) → length (ranges_of ps) ≡ length ps
length-ranges_of [] = refl
length-ranges_of (p ∷ ps) = ap suc (length-ranges_of ps)

-- what is known of a store that tells, and of pages whose counts are in order
pub known_of : (pages : PagesView) (t : ℕ) → IsTold pages.store → IsOrdered (outline_of pages)
    → IsKept pages.store.shape (state_of pages) × (length (log_of (state_of pages) t) ≡ length (listed (pages.store.ranges t)))
known_of pages t told ordered = (
  kept pages told ordered,
  sym (ap (λ (o : Option (List (ℕ × ℕ))). length (listed o)) (told.outlines t) ∙ ap length (listed-ranges (pages.store.state.logs t)) ∙ length-ranges_of (listed (pages.store.state.logs t))),
)

-- a command stated for the shape of its own store, as for that of an earlier one
pub on_shape : {T : Type 0} (tells : Bool) (Opens : Shape → List ℕ → List ℕ → Type 0) (c : PageCommand) (old now new : PagesView) (r : Result T PageFault) → now.store.shape ≡ old.store.shape
    → Does tells (Opens now.store.shape) c now new r → Does tells (Opens old.store.shape) c now new r
on_shape tells Opens c old now new r same does = subst (λ (s : Shape). Does tells (Opens s) c now new r) same does

-- a range within a page begins within it
pub begins_within : (store : StoreView) (page at len : ℕ) → 0 < len → IsInPage store page at len → at < 512
begins_within store page at len some inside = omega (arith, inside.within)
