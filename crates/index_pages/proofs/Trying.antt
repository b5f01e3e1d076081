-- How far a test has come: what it has read so far, and what is left of its plan.
use Rattle.std.proofs.Common.{◌≡◌, ◌≢◌, ℕ, zero, suc, ◌+◌, ◌-◌, ◌*◌, ◌/◌, ◌%◌, ◌<◌, ◌≤◌, ◌⊎◌, inl, inr, Bool, true, false, List, [], ◌∷◌, ◌++◌, Option, Some, None, Result, Ok, Err, refl, sym, ◌∙◌, ap, subst, arith}
use Rattle.std.specs.Prelude.{IsTrue}
use Rattle.std.proofs.lemmas.Bool.{false≢true}
use Rattle.std.proofs.lemmas.List.{append-nil, append_assoc}
use Rattle.array_shape.specs.declared.shape.Shape.{Shape}
use Rattle.array_shape.specs.Places.{page_count}
use Rattle.eaw_face.specs.Causes.{IsAlive}
use Rattle.eaw_face.specs.Command.{Command}
use Rattle.eaw_face.specs.Command as store
use Rattle.eaw_face.specs.State.{State}
use Rattle.eaw_face.specs.StoreView.{StoreView}
use Rattle.mars_base.specs.Bytes.{range}
use Rattle.record_slots.specs.Places.{page_bytes}
use Rattle.page_store.specs.Course.{Reading}
use Rattle.page_store.specs.Follows.{HasRead, one_reading}
use Rattle.page_store.specs.Looks.{IsStill, is_failed}
use Rattle.page_store.specs.Shown.{address}
use Rattle.page_store.specs.Tested.{Excerpt, Outcome, passes, fails, stops, Plan, at_end, holding, reading, in_turn, Brings, AreOfArray, AreOfData, excerpts_cost, HasReadBytes, is_test_failed, outcome_of}
use Rattle.page_store.specs.declared.fault.PageFault.{PageFault}
use Rattle.page_store.specs.declared.fault.PageFault.TheVariants as faults
use Rattle.page_store.specs.declared.index_fault.CheckFault.{CheckFault}
use Rattle.page_store.specs.declared.index_fault.CheckFault.TheVariants.{Damaged, Media, Dead, NoMemory}
use Rattle.page_store.specs.Faults.{as_check}
use Rattle.record_slots.specs.Super.{SaysSuper, HasTables, version_said, next_said, entries_said}
use Rattle.index_pages.specs.Fetched.{IsFront, ReadCause, TestCause}
use Rattle.mars_base.specs.Costs.{Costs}
use Rattle.std.specs.Prelude.{OnOk, IfSome, nat_eq}
use Rattle.std.specs.Option.{option_map}
use Rattle.std.proofs.lemmas.Bool.Decides.{eqb_tells}
use Rattle.page_store.specs.Index.{index_pages_of}
use Rattle.page_store.specs.Pairs.{Pair}
use Rattle.record_slots.specs.Places.{IsOfKey}
use Rattle.record_slots.specs.Slots.{slot_said}
use Rattle.record_slots.specs.Free.{free_said, next_of}
use Rattle.index_pages.specs.Slots.{Names, HasRank}
use Rattle.std.proofs.Common.{drop}
use Rattle.index_pages.proofs.Causing.{still_same}
use Rattle.index_pages.proofs.Courses.{every_append}
use Rattle.index_pages.proofs.Tabled.{root_in}
use Rattle.index_pages.proofs.Tables.{entry_at, none_at, none_left}
use Rattle.page_store.specs.Tested.{IsReadFrom, Tests, blamed_check}
use Rattle.record_slots.specs.declared.super_page.TableEntry.{TableEntry}
use Rattle.record_slots.specs.declared.super_page.Super.{Super}
use Rattle.record_slots.specs.declared.free.Free.{Free}
use Rattle.record_slots.specs.Super.{tables_in}
use Rattle.index_pages.specs.declared.held.HeldPage.{HeldPage}
use Rattle.index_pages.specs.Plans.{Tries, Holds, one_excerpt, whether, with_page, held_of, slot_plan, slots_plan, list_plan, free_slot_plan, free_page_plan, free_slots_plan, free_pages_plan, tables_plan, lists_plan, index_plan, front_said, IsFrontOf, IsFrontSaid, IsTested}

cost_append : (calls : Command → ℕ) (first later : List Excerpt) → excerpts_cost calls (first ++ later) ≡ excerpts_cost calls first + excerpts_cost calls later
cost_append calls [] later = omega arith
cost_append calls (e ∷ es) later = omega (arith, cost_append calls es later)

cost_same : (calls other : Command → ℕ) (es : List Excerpt) → ((command : Command) → other command ≡ calls command) → excerpts_cost other es ≡ excerpts_cost calls es
cost_same calls other [] same = refl
cost_same calls other (e ∷ es) same = omega (arith, same (store.read (address e.page e.at) e.len), cost_same calls other es same)

-- nothing was read
pub bytes_none : {tells : Bool} {calls : Command → ℕ} {old : StoreView} → HasReadBytes tells false calls calls old old []
bytes_none {tells} {calls} {old} = record { there = tt; said = λ told. tt; most = omega arith; exact = λ well. omega arith; steady = λ well command. refl }

-- bytes that were read without a fault, and others after them
pub bytes_then : {tells failed : Bool} {calls calls_mid calls_now : Command → ℕ} {old mid new : StoreView} (first later : List Excerpt) → IsStill tells old mid → mid.shape ≡ old.shape
    → HasReadBytes tells false calls calls_mid old mid first → HasReadBytes tells failed calls_mid calls_now mid new later → HasReadBytes tells failed calls calls_now old new (first ++ later)
bytes_then {tells} {failed} {calls} {calls_mid} {calls_now} {old} {mid} {new} first later still shape one two =
    let all = cost_append calls first later in
    let same = cost_same calls calls_mid later (one.steady refl) in
    record {
      there = every_append (λ (e : Excerpt). e.page < page_count old.shape) first later one.there (subst (λ (s : Shape). AreOfArray (page_count s) later) shape two.there);
      said = λ told. every_append (λ (e : Excerpt). e.said ≡ range old.state.bytes (address e.page e.at) e.len) first later (one.said told) (subst (λ (s : State). AreOfData s.bytes later) (still.state told) (two.said told));
      most = omega (arith, all, same, one.exact refl, two.most);
      exact = λ well. omega (arith, all, same, one.exact refl, two.exact well);
      steady = λ well command. two.steady well command ∙ one.steady refl command;
    }

-- a whole page that was read
abbrev pub whole_of : ℕ → List ℕ → Excerpt
whole_of page said = record { page = page; at = 0; len = 512; said = said }

pub bytes_page : {tells failed : Bool} {calls calls_now : Command → ℕ} {old new : StoreView} (page : ℕ) (said : List ℕ) → HasRead tells failed calls calls_now old new ((page, said) ∷ []) → HasReadBytes tells failed calls calls_now old new (whole_of page said ∷ [])
unfolding page_bytes
bytes_page {tells} {failed} {calls} {calls_now} {old} {new} page said reads = record {
  there = reads.there;
  said = λ told. ((reads.said told).0 ∙ ap (λ (n : ℕ). range old.state.bytes n 512) (let z : 512 * page ≡ 512 * page + 0 = omega arith in z), tt);
  most = reads.most;
  exact = reads.exact;
  steady = reads.steady;
}

-- So far these bytes were read, without a fault, and what brings the rest of a plan to an outcome brings the whole of it there.
pub record SoFar (tells : Bool) (calls calls_now : Command → ℕ) (rest whole : Plan) (old now : StoreView) : Type 0 where
  pub read : List Excerpt
  pub reads : HasReadBytes tells false calls calls_now old now read
  pub left : (later : List Excerpt) (outcome : Outcome) → Brings rest later outcome → Brings whole (read ++ later) outcome

-- at first all is left
pub so_first : {tells : Bool} {calls : Command → ℕ} {old : StoreView} (plan : Plan) → SoFar tells calls calls plan plan old old
so_first plan = record { read = []; reads = bytes_none; left = λ later outcome brings. brings }

pub fault_stays : (T : Type 0) (fault : CheckFault) → (let r : Result T CheckFault = Err fault in outcome_of r ≢ passes)
fault_stays T (Damaged bad) is = absurd (cc)
fault_stays T Media is = absurd (cc)
fault_stays T Dead is = absurd (cc)
fault_stays T NoMemory is = absurd (cc)

module _ {tells : Bool} {calls calls_mid : Command → ℕ} {whole : Plan} {old mid : StoreView} where
  -- it is to hold that comes next: it does, or the page is damaged
  pub so_holds : (Holds : Type 0) (page : ℕ) (rest : Plan) → SoFar tells calls calls_mid (holding Holds page rest) whole old mid → Holds → SoFar tells calls calls_mid rest whole old mid
  so_holds Holds page rest so holds = record { read = so.read; reads = so.reads; left = λ later outcome brings. so.left later outcome (inl (holds, brings)) }

  pub so_bad : {T : Type 0} (Holds : Type 0) (page : ℕ) (rest : Plan) → SoFar tells calls calls_mid (holding Holds page rest) whole old mid → (Holds → ⊥) → (let r : Result T CheckFault = Err (Damaged page) in Tries tells calls calls_mid whole old mid r)
  so_bad Holds page rest so not = record {
    read = so.read;
    reads = so.reads;
    brings = subst (λ (es : List Excerpt). Brings whole es (fails page)) (append-nil so.read) (so.left [] (fails page) (inr (refl, (not, refl))));
  }

  -- all was tested, or there is no memory
  pub so_passes : {T : Type 0} (x : T) → SoFar tells calls calls_mid at_end whole old mid → (let r : Result T CheckFault = Ok x in Tries tells calls calls_mid whole old mid r)
  so_passes x so = record {
    read = so.read;
    reads = so.reads;
    brings = subst (λ (es : List Excerpt). Brings whole es passes) (append-nil so.read) (so.left [] passes (refl, inl refl));
  }

  pub so_stops : {T : Type 0} (rest : Plan) → SoFar tells calls calls_mid rest whole old mid → Brings rest [] stops → (let r : Result T CheckFault = Err NoMemory in Tries tells calls calls_mid whole old mid r)
  so_stops rest so stop = record {
    read = so.read;
    reads = so.reads;
    brings = subst (λ (es : List Excerpt). Brings whole es stops) (append-nil so.read) (so.left [] stops stop);
  }

  module _ {calls_now : Command → ℕ} {new : StoreView} (still : IsStill tells old mid) (shape : mid.shape ≡ old.shape) where
    -- one test was made, and passed or not
    pub so_then : {T : Type 0} (one rest : Plan) (x : T) → SoFar tells calls calls_mid (in_turn one rest) whole old mid → (let r : Result T CheckFault = Ok x in Tries tells calls_mid calls_now one mid new r) → SoFar tells calls calls_now rest whole old new
    so_then one rest x so tries = record {
      read = so.read ++ tries.read;
      reads = bytes_then so.read tries.read still shape so.reads tries.reads;
      left = λ later outcome brings.
          subst (λ (es : List Excerpt). Brings whole es outcome) (sym (append_assoc so.read tries.read later)) (so.left (tries.read ++ later) outcome (inl (tries.read, later, refl, tries.brings, brings)));
    }

    pub so_fails : {T U : Type 0} (one rest : Plan) (fault : CheckFault) → SoFar tells calls calls_mid (in_turn one rest) whole old mid → (let r : Result T CheckFault = Err fault in Tries tells calls_mid calls_now one mid new r)
        → (let r : Result U CheckFault = Err fault in Tries tells calls calls_now whole old new r)
    so_fails {T} {U} one rest (Damaged bad) so tries = record { read = so.read ++ tries.read; reads = bytes_then so.read tries.read still shape so.reads tries.reads; brings = so.left tries.read (fails bad) (inr (fault_stays T (Damaged bad), tries.brings)) }
    so_fails {T} {U} one rest Media so tries = record { read = so.read ++ tries.read; reads = bytes_then so.read tries.read still shape so.reads tries.reads; brings = so.left tries.read stops (inr (fault_stays T Media, tries.brings)) }
    so_fails {T} {U} one rest Dead so tries = record { read = so.read ++ tries.read; reads = bytes_then so.read tries.read still shape so.reads tries.reads; brings = so.left tries.read stops (inr (fault_stays T Dead, tries.brings)) }
    so_fails {T} {U} one rest NoMemory so tries = record { read = so.read ++ tries.read; reads = bytes_then so.read tries.read still shape so.reads tries.reads; brings = so.left tries.read stops (inr (fault_stays T NoMemory, tries.brings)) }

    -- the rest was tested
    pub so_ends : {T : Type 0} (rest : Plan) (r : Result T CheckFault) → SoFar tells calls calls_mid rest whole old mid → Tries tells calls_mid calls_now rest mid new r → Tries tells calls calls_now whole old new r
    so_ends rest r so tries = record { read = so.read ++ tries.read; reads = bytes_then so.read tries.read still shape so.reads tries.reads; brings = so.left tries.read (outcome_of r) tries.brings }

    -- bytes were read that come next, or the read failed
    pub so_read : (page at len : ℕ) (next : List ℕ → Plan) (said : List ℕ) → SoFar tells calls calls_mid (reading page at len next) whole old mid
        → HasReadBytes tells false calls_mid calls_now mid new (record { page = page; at = at; len = len; said = said } ∷ []) → SoFar tells calls calls_now (next said) whole old new
    so_read page at len next said so reads =
        let e : Excerpt = record { page = page; at = at; len = len; said = said } in
        record {
          read = so.read ++ e ∷ [];
          reads = bytes_then so.read (e ∷ []) still shape so.reads reads;
          left = λ later outcome brings.
              subst (λ (es : List Excerpt). Brings whole es outcome) (sym (append_assoc so.read (e ∷ []) later)) (so.left (e ∷ later) outcome (refl, refl, refl, inl brings));
        }

    pub so_unread : {T : Type 0} (page at len : ℕ) (next : List ℕ → Plan) (said : List ℕ) → SoFar tells calls calls_mid (reading page at len next) whole old mid
        → HasReadBytes tells true calls_mid calls_now mid new (record { page = page; at = at; len = len; said = said } ∷ []) → (let r : Result T CheckFault = Err Media in Tries tells calls calls_now whole old new r)
    so_unread page at len next said so reads =
        let e : Excerpt = record { page = page; at = at; len = len; said = said } in
        record { read = so.read ++ e ∷ []; reads = bytes_then so.read (e ∷ []) still shape so.reads reads; brings = so.left (e ∷ []) stops (refl, refl, refl, inr (refl, refl)) }

    -- the same of a whole page
    pub so_page : (page : ℕ) (next : List ℕ → Plan) (said : List ℕ) → SoFar tells calls calls_mid (reading page 0 512 next) whole old mid → HasRead tells false calls_mid calls_now mid new ((page, said) ∷ []) → SoFar tells calls calls_now (next said) whole old new
    so_page page next said so reads = so_read page 0 512 next said so (bytes_page page said reads)

    pub so_page_err : {T : Type 0} (U : Type 0) (page : ℕ) (next : List ℕ → Plan) (said there : List ℕ) (fault : PageFault) (told : CheckFault) → told ≡ as_check fault → SoFar tells calls calls_mid (reading page 0 512 next) whole old mid → IsAlive mid
        → (let r : Result U PageFault = Err fault in ReadCause mid r) → (let r : Result U PageFault = Err fault in HasRead tells (is_failed r) calls_mid calls_now mid new (one_reading page said there r))
        → (let r : Result T CheckFault = Err told in Tries tells calls calls_now whole old new r)
    so_page_err {T} U page next said there faults.Media told is so alive cause reads = subst (λ (f : CheckFault). (let r : Result T CheckFault = Err f in Tries tells calls calls_now whole old new r)) (sym is) (so_unread page 0 512 next there so (bytes_page page there reads))
    so_page_err U page next said there faults.Dead told is so alive cause reads = absurd (false≢true (sym alive ∙ cause))
    so_page_err U page next said there (faults.Damaged bad) told is so alive cause reads = absurd cause
    so_page_err U page next said there (faults.LogFull g h n) told is so alive cause reads = absurd cause
    so_page_err U page next said there faults.SavesFull told is so alive cause reads = absurd cause

pub ok_bytes : {E : Type 0} (r : Result (Unit {0}) E) (buf there other : List ℕ) → there ≡ other → OnOk r (buf ≡ there) → OnOk r (buf ≡ other)
ok_bytes (Ok x) buf there other same is = is ∙ same
ok_bytes (Err f) buf there other same is = tt

-- a read of bytes that come next failed
module _ {tells : Bool} {calls calls_mid calls_now : Command → ℕ} {whole : Plan} {old mid new : StoreView} (still : IsStill tells old mid) (shape : mid.shape ≡ old.shape) where
  pub so_bytes_err : {T : Type 0} (U : Type 0) (page at len : ℕ) (next : List ℕ → Plan) (said there : List ℕ) (fault : PageFault) (told : CheckFault) → told ≡ as_check fault → SoFar tells calls calls_mid (reading page at len next) whole old mid → IsAlive mid
      → (let r : Result U PageFault = Err fault in ReadCause mid r) → (let r : Result U PageFault = Err fault in HasReadBytes tells (is_failed r) calls_mid calls_now mid new (one_excerpt page at len said there r))
      → (let r : Result T CheckFault = Err told in Tries tells calls calls_now whole old new r)
  so_bytes_err {T} U page at len next said there faults.Media told is so alive cause reads = subst (λ (f : CheckFault). (let r : Result T CheckFault = Err f in Tries tells calls calls_now whole old new r)) (sym is) (so_unread still shape page at len next there so reads)
  so_bytes_err U page at len next said there faults.Dead told is so alive cause reads = absurd (false≢true (sym alive ∙ cause))
  so_bytes_err U page at len next said there (faults.Damaged bad) told is so alive cause reads = absurd cause
  so_bytes_err U page at len next said there (faults.LogFull g h n) told is so alive cause reads = absurd cause
  so_bytes_err U page at len next said there faults.SavesFull told is so alive cause reads = absurd cause

-- bytes of one page were read, or the store was dead
pub bytes_one : {T : Type 0} (tells : Bool) (calls calls_now : Command → ℕ) (old new : StoreView) (page at len : ℕ) (said there : List ℕ) (r : Result T PageFault)
    → page < page_count old.shape → ReadCause old r → Costs true (calls (store.read (address page at) len)) old.moment new.moment r → OnOk r ((command : Command) → calls_now command ≡ calls command)
    → (IsTrue tells → OnOk r (said ≡ range old.state.bytes (address page at) len)) → (IsTrue tells → there ≡ range old.state.bytes (address page at) len)
    → (r ≡ Err faults.Dead → (new.moment ≡ old.moment) × ((command : Command) → calls_now command ≡ calls command))
    → HasReadBytes tells (is_failed r) calls calls_now old new (one_excerpt page at len said there r)
bytes_one tells calls calls_now old new page at len said there (Ok x) inside cause costs steady is are same = record {
  there = (inside, tt);
  said = λ told. (is told, tt);
  most = omega (arith, costs.most);
  exact = λ well. omega (arith, costs.done refl);
  steady = λ well. steady;
}
bytes_one tells calls calls_now old new page at len said there (Err faults.Media) inside cause costs steady is are same = record {
  there = (inside, tt);
  said = λ told. (are told, tt);
  most = omega (arith, costs.most);
  exact = λ well. absurd (false≢true (sym well));
  steady = λ well. absurd (false≢true (sym well));
}
bytes_one tells calls calls_now old new page at len said there (Err faults.Dead) inside cause costs steady is are same = record {
  there = tt;
  said = λ told. tt;
  most = omega (arith, (same refl).0);
  exact = λ well. omega (arith, (same refl).0);
  steady = λ well. (same refl).1;
}
bytes_one tells calls calls_now old new page at len said there (Err (faults.LogFull g h k)) inside cause costs steady is are same = absurd cause
bytes_one tells calls calls_now old new page at len said there (Err faults.SavesFull) inside cause costs steady is are same = absurd cause
bytes_one tells calls calls_now old new page at len said there (Err (faults.Damaged bad)) inside cause costs steady is are same = absurd cause

-- A page that is held is not read.
held_cases : (o : Option ℕ) (page : ℕ) → (o ≡ Some page) ⊎ (o ≢ Some page)
held_cases None page = inr (λ is. cc)
held_cases (Some p) page = elim (eqb_tells p page) [ inl same ↦ inl (ap (λ (n : ℕ). Some n) same.1) | inr other ↦ inr (λ is. other.1 (let e : p ≡ page = cc in e)) ]

with_held : (o : Option ℕ) (bytes : List ℕ) (page : ℕ) (next : List ℕ → Plan) → o ≡ Some page → with_page (option_map (λ p. (p, bytes)) o) page next ≡ next bytes
with_held None bytes page next is = absurd (cc)
with_held (Some p) bytes page next is = elim (eqb_tells p page) [ inl same ↦ rw same.0 refl | inr other ↦ absurd (other.1 (let e : p ≡ page = cc in e)) ]

with_other : (o : Option ℕ) (bytes : List ℕ) (page : ℕ) (next : List ℕ → Plan) → o ≢ Some page → with_page (option_map (λ p. (p, bytes)) o) page next ≡ reading page 0 512 next
with_other None bytes page next other = refl
with_other (Some p) bytes page next other = elim (eqb_tells p page) [ inl same ↦ absurd (other (ap (λ (n : ℕ). Some n) same.1)) | inr ne ↦ rw ne.0 refl ]

bytes_still : {tells : Bool} {calls calls_now : Command → ℕ} {old new : StoreView} → HasRead tells false calls calls_now old new [] → HasReadBytes tells false calls calls_now old new []
bytes_still reads = record { there = tt; said = λ told. tt; most = reads.most; exact = reads.exact; steady = reads.steady }

module _ {tells : Bool} {calls calls_mid calls_now : Command → ℕ} {whole : Plan} {old mid new : StoreView} (still : IsStill tells old mid) (shape : mid.shape ≡ old.shape) (page : ℕ) (next : List ℕ → Plan) (held now : HeldPage)
    (so : SoFar tells calls calls_mid (with_page (held_of held) page next) whole old mid) where
  pub so_held : {T : Type 0} (x : T) → (let r : Result T PageFault = Ok x in Holds tells calls_mid calls_now page held now mid new r) → SoFar tells calls calls_now (next now.bytes) whole old new
  so_held x holds = elim (held_cases held.page page) [
    | inl is ↦
        let same = holds.same is in
        let here : SoFar tells calls calls_mid (next held.bytes) whole old mid = subst (λ (p : Plan). SoFar tells calls calls_mid p whole old mid) (with_held held.page held.bytes page next is) so in
        subst (λ (h : HeldPage). SoFar tells calls calls_now (next h.bytes) whole old new) (sym same.1)
        (record {
          read = here.read ++ [];
          reads = bytes_then here.read [] still shape here.reads (bytes_still same.2);
          left = λ later outcome brings. subst (λ (es : List Excerpt). Brings whole (es ++ later) outcome) (sym (append-nil here.read)) (here.left later outcome brings);
        })
    | inr other ↦
        so_page still shape page next now.bytes (subst (λ (p : Plan). SoFar tells calls calls_mid p whole old mid) (with_other held.page held.bytes page next other) so) (holds.reads other)
  ]

  pub so_held_err : {T U : Type 0} (fault : PageFault) (told : CheckFault) → told ≡ as_check fault → IsAlive mid → (let r : Result T PageFault = Err fault in ReadCause mid r)
      → (let r : Result T PageFault = Err fault in Holds tells calls_mid calls_now page held now mid new r) → (let r : Result U CheckFault = Err told in Tries tells calls calls_now whole old new r)
  so_held_err {T} {U} fault told is alive cause holds = elim (held_cases held.page page) [
    | inl same ↦ absurd (false≢true (holds.same same).0)
    | inr other ↦
        so_page_err still shape T page next now.bytes (page_bytes mid.state.bytes page) fault told is (subst (λ (p : Plan). SoFar tells calls calls_mid p whole old mid) (with_other held.page held.bytes page next other) so) alive cause (holds.reads other)
  ]

-- what is held is the same for an answer of another kind
pub holds_ok : {T U : Type 0} (tells : Bool) (calls calls_now : Command → ℕ) (page : ℕ) (held now : HeldPage) (old new : StoreView) (x : T) (y : U) → (let r : Result T PageFault = Ok x in Holds tells calls calls_now page held now old new r)
    → (let r : Result U PageFault = Ok y in Holds tells calls calls_now page held now old new r)
holds_ok tells calls calls_now page held now old new x y holds = record { same = λ is. (refl, (holds.same is).1, (holds.same is).2); reads = λ other. holds.reads other }

pub holds_err : (T U : Type 0) (tells : Bool) (calls calls_now : Command → ℕ) (page : ℕ) (held now : HeldPage) (old new : StoreView) (fault : PageFault) → (let r : Result T PageFault = Err fault in Holds tells calls calls_now page held now old new r)
    → (let r : Result U PageFault = Err fault in Holds tells calls calls_now page held now old new r)
holds_err T U tells calls calls_now page held now old new faults.Media holds = record { same = λ is. absurd (false≢true (holds.same is).0); reads = λ other. holds.reads other }
holds_err T U tells calls calls_now page held now old new faults.Dead holds = record { same = λ is. absurd (false≢true (holds.same is).0); reads = λ other. holds.reads other }
holds_err T U tells calls calls_now page held now old new (faults.Damaged bad) holds = record { same = λ is. absurd (false≢true (holds.same is).0); reads = λ other. holds.reads other }
holds_err T U tells calls calls_now page held now old new (faults.LogFull g h n) holds = record { same = λ is. absurd (false≢true (holds.same is).0); reads = λ other. holds.reads other }
holds_err T U tells calls calls_now page held now old new faults.SavesFull holds = record { same = λ is. absurd (false≢true (holds.same is).0); reads = λ other. holds.reads other }

-- What a page leads to, and what comes after that.
read_on : (page at len : ℕ) (one two : List ℕ → Plan) (read later : List Excerpt) (from to : Outcome) → ((said : List ℕ) (es : List Excerpt) → Brings (one said) es from → Brings (two said) (es ++ later) to) → from ≢ stops
    → Brings (reading page at len one) read from → Brings (reading page at len two) (read ++ later) to
read_on page at len one two [] later from to step goes brings = absurd (goes brings)
read_on page at len one two (e ∷ es) later from to step goes brings = elim brings.3 [ inl more ↦ (brings.0, brings.1, brings.2, inl (step e.said es more)) | inr stop ↦ absurd (goes stop.1) ]

held_on : (held : Option Reading) (page : ℕ) (one two : List ℕ → Plan) (read later : List Excerpt) (from to : Outcome) → ((said : List ℕ) (es : List Excerpt) → Brings (one said) es from → Brings (two said) (es ++ later) to) → from ≢ stops
    → Brings (with_page held page one) read from → Brings (with_page held page two) (read ++ later) to
held_on None page one two read later from to step goes brings = read_on page 0 512 one two read later from to step goes brings
held_on (Some h) page one two read later from to step goes brings = here (nat_eq h.0 page) brings
  where
    here : (is : Bool) → Brings (whether is (one h.1) (reading page 0 512 one)) read from → Brings (whether is (two h.1) (reading page 0 512 two)) (read ++ later) to
    here true brings = step h.1 read brings
    here false brings = read_on page 0 512 one two read later from to step goes brings

read_same : (page at len : ℕ) (one two : List ℕ → Plan) (read : List Excerpt) (to : Outcome) → ((said : List ℕ) (es : List Excerpt) → Brings (one said) es to → Brings (two said) es to) → Brings (reading page at len one) read to → Brings (reading page at len two) read to
read_same page at len one two [] to step brings = brings
read_same page at len one two (e ∷ es) to step brings = elim brings.3 [ inl more ↦ (brings.0, brings.1, brings.2, inl (step e.said es more)) | inr stop ↦ (brings.0, brings.1, brings.2, inr stop) ]

held_same : (held : Option Reading) (page : ℕ) (one two : List ℕ → Plan) (read : List Excerpt) (to : Outcome) → ((said : List ℕ) (es : List Excerpt) → Brings (one said) es to → Brings (two said) es to) → Brings (with_page held page one) read to → Brings (with_page held page two) read to
held_same None page one two read to step brings = read_same page 0 512 one two read to step brings
held_same (Some h) page one two read to step brings = here (nat_eq h.0 page) brings
  where
    here : (is : Bool) → Brings (whether is (one h.1) (reading page 0 512 one)) read to → Brings (whether is (two h.1) (reading page 0 512 two)) read to
    here true brings = step h.1 read brings
    here false brings = read_same page 0 512 one two read to step brings

-- a fault, as an answer of another kind
pub failed_as : (tells : Bool) (calls calls_now : Command → ℕ) (old new : StoreView) (T U : Type 0) (fault : CheckFault) (read : List Excerpt) → (let r : Result T CheckFault = Err fault in HasReadBytes tells (is_test_failed r) calls calls_now old new read)
    → (let r : Result U CheckFault = Err fault in HasReadBytes tells (is_test_failed r) calls calls_now old new read)
failed_as tells calls calls_now old new T U (Damaged bad) read reads = reads
failed_as tells calls calls_now old new T U Media read reads = reads
failed_as tells calls calls_now old new T U Dead read reads = reads
failed_as tells calls calls_now old new T U NoMemory read reads = reads

pub brought_as : (T U : Type 0) (fault : CheckFault) (read : List Excerpt) (plan : Plan) → (let r : Result T CheckFault = Err fault in Brings plan read (outcome_of r)) → (let r : Result U CheckFault = Err fault in Brings plan read (outcome_of r))
brought_as T U (Damaged bad) read plan brings = brings
brought_as T U Media read plan brings = brings
brought_as T U Dead read plan brings = brings
brought_as T U NoMemory read plan brings = brings

-- The slot of a pair was tested.
module _ (half slots table page : ℕ) (held : Option Reading) (pair : Pair) (next : Option Reading → Plan) where
  pub slot_on : (now : HeldPage) (read later : List Excerpt) (to : Outcome) → Brings (slot_plan half slots table page held pair (λ h. holding (h ≡ held_of now) 0 at_end)) read passes → Brings (next (held_of now)) later to
      → Brings (slot_plan half slots table page held pair next) (read ++ later) to
  slot_on now read later to (inl first) rest =
      inl (
        first.0,
        held_on held _ _ _ read later passes to
            (λ said es more. elim more [
              | inl carries ↦ elim carries.1 [
                | inl same ↦
                    let none : es ≡ [] = same.1.0 in
                    inl (carries.0, subst (λ (xs : List Excerpt). Brings (next (Some (half + pair.1 / 8, said))) (xs ++ later) to) (sym none) (subst (λ (h : Option Reading). Brings (next h) later to) (sym same.0) rest))
                | inr over ↦ absurd over.1
              ]
              | inr over ↦ absurd over.1
            ]) (λ is. cc) first.1,
      )
  slot_on now read later to (inr over) rest = absurd over.1

  pub slot_same : (read : List Excerpt) (to : Outcome) → to ≢ passes → ((now : Option Reading) → Brings (next now) [] stops) → Brings (slot_plan half slots table page held pair (λ h. at_end)) read to → Brings (slot_plan half slots table page held pair next) read to
  slot_same read to other may (inl first) =
      inl (
        first.0,
        held_same held _ _ _ read to
            (λ said es more. elim more [
              | inl carries ↦ elim carries.1.1 [
                | inl passed ↦ absurd (other passed)
                | inr stopped ↦ inl (carries.0, subst (λ (xs : List Excerpt). Brings (next (Some (half + pair.1 / 8, said))) xs to) (sym carries.1.0) (subst (λ (o : Outcome). Brings (next (Some (half + pair.1 / 8, said))) [] o) (sym stopped) (may (Some (half + pair.1 / 8, said)))))
              ]
              | inr over ↦ inr over
            ]) first.1,
      )
  slot_same read to other may (inr over) = inr over

  module _ {tells : Bool} {calls calls_mid calls_now : Command → ℕ} {whole : Plan} {old mid new : StoreView} (still : IsStill tells old mid) (shape : mid.shape ≡ old.shape)
      (so : SoFar tells calls calls_mid (slot_plan half slots table page held pair next) whole old mid) where
    pub so_slot : {T : Type 0} (x : T) (now : HeldPage) → (let r : Result T CheckFault = Ok x in Tries tells calls_mid calls_now (slot_plan half slots table page held pair (λ h. holding (h ≡ held_of now) 0 at_end)) mid new r)
        → SoFar tells calls calls_now (next (held_of now)) whole old new
    so_slot x now tries = record {
      read = so.read ++ tries.read;
      reads = bytes_then so.read tries.read still shape so.reads tries.reads;
      left = λ later outcome brings.
          subst (λ (es : List Excerpt). Brings whole es outcome) (sym (append_assoc so.read tries.read later)) (so.left (tries.read ++ later) outcome (slot_on now tries.read later outcome tries.brings brings));
    }

    pub so_slot_err : {T U : Type 0} (fault : CheckFault) → ((now : Option Reading) → Brings (next now) [] stops)
        → (let r : Result T CheckFault = Err fault in Tries tells calls_mid calls_now (slot_plan half slots table page held pair (λ h. at_end)) mid new r) → (let r : Result U CheckFault = Err fault in Tries tells calls calls_now whole old new r)
    so_slot_err {T} {U} fault may tries = record {
      read = so.read ++ tries.read;
      reads = bytes_then so.read tries.read still shape so.reads (failed_as tells calls_mid calls_now mid new T U fault tries.read tries.reads);
      brings = so.left tries.read (let r : Result U CheckFault = Err fault in outcome_of r) (slot_same tries.read (let r : Result U CheckFault = Err fault in outcome_of r) (fault_stays U fault) may (brought_as T U fault tries.read (slot_plan half slots table page held pair (λ h. at_end)) tries.brings));
    }

-- The slot of a pair is tested: what it comes to.
module _ (tells : Bool) (calls calls_now : Command → ℕ) (half slots table page : ℕ) (held now : HeldPage) (pair : Pair) (old new : StoreView) where
  module _ (given : pair.1 < slots) where
    module _ (T : Type 0) (x : T) (holds : (let r : Result T PageFault = Ok x in Holds tells calls calls_now (half + pair.1 / 8) held now old new r)) where
      slot_so : (next : Option Reading → Plan) → SoFar tells calls calls_now (holding (IsOfKey table pair.0 (slot_said (range now.bytes (64 * (pair.1 % 8)) 64))) (half + pair.1 / 8) (next (Some (half + pair.1 / 8, now.bytes)))) (slot_plan half slots table page (held_of held) pair next) old new
      slot_so next =
          so_held (still_same tells old) refl (half + pair.1 / 8) (λ said. holding (IsOfKey table pair.0 (slot_said (range said (64 * (pair.1 % 8)) 64))) (half + pair.1 / 8) (next (Some (half + pair.1 / 8, said)))) held now
          (so_holds _ _ _ (so_first (slot_plan half slots table page (held_of held) pair next)) given) x holds

      pub slot_other : (count : ℕ) → count ≡ half → (IsOfKey table pair.0 (slot_said (range now.bytes (64 * (pair.1 % 8)) 64)) → ⊥) → (let r : Result (Unit {0}) CheckFault = Err (Damaged (count + pair.1 / 8)) in Tries tells calls calls_now (slot_plan half slots table page (held_of held) pair (λ h. at_end)) old new r)
      slot_other count same other =
          subst (λ (n : ℕ). (let r : Result (Unit {0}) CheckFault = Err (Damaged (n + pair.1 / 8)) in Tries tells calls calls_now (slot_plan half slots table page (held_of held) pair (λ h. at_end)) old new r)) (sym same) (so_bad _ _ _ (slot_so (λ h. at_end)) other)

      pub slot_holds : now.page ≡ Some (half + pair.1 / 8) → IsOfKey table pair.0 (slot_said (range now.bytes (64 * (pair.1 % 8)) 64))
          → (let r : Result (Unit {0}) CheckFault = Ok tt in Tries tells calls calls_now (slot_plan half slots table page (held_of held) pair (λ h. holding (h ≡ held_of now) 0 at_end)) old new r)
      slot_holds is carries =
          so_passes tt (so_holds _ _ _ (so_holds _ _ _ (slot_so (λ h. holding (h ≡ held_of now) 0 at_end)) carries) (sym (ap (λ (o : Option ℕ). option_map (λ p. (p, now.bytes)) o) is)))

      pub slot_no_memory : IsOfKey table pair.0 (slot_said (range now.bytes (64 * (pair.1 % 8)) 64)) → (let r : Result (Unit {0}) CheckFault = Err NoMemory in Tries tells calls calls_now (slot_plan half slots table page (held_of held) pair (λ h. at_end)) old new r)
      slot_no_memory carries = so_stops at_end (so_holds _ _ _ (slot_so (λ h. at_end)) carries) (refl, inr refl)

    pub slot_unread : (T : Type 0) (fault : PageFault) (told : CheckFault) → told ≡ as_check fault → IsAlive old → (let r : Result T PageFault = Err fault in ReadCause old r) → (let r : Result T PageFault = Err fault in Holds tells calls calls_now (half + pair.1 / 8) held now old new r)
        → (let r : Result (Unit {0}) CheckFault = Err told in Tries tells calls calls_now (slot_plan half slots table page (held_of held) pair (λ h. at_end)) old new r)
    slot_unread T fault told is alive cause holds =
        so_held_err (still_same tells old) refl (half + pair.1 / 8) _ held now (so_holds _ _ _ (so_first (slot_plan half slots table page (held_of held) pair (λ h. at_end))) given) fault told is alive cause holds

pub slot_unnamed : (tells : Bool) (calls : Command → ℕ) (half slots table page : ℕ) (held : HeldPage) (pair : Pair) (old : StoreView) → (pair.1 < slots → ⊥)
    → (let r : Result (Unit {0}) CheckFault = Err (Damaged page) in Tries tells calls calls (slot_plan half slots table page (held_of held) pair (λ h. at_end)) old old r)
slot_unnamed tells calls half slots table page held pair old not = so_bad _ _ _ (so_first (slot_plan half slots table page (held_of held) pair (λ h. at_end))) not

-- a test may stop at once
pub slots_stop : (half slots table page : ℕ) (ps : List Pair) (held : Option Reading) → Brings (slots_plan half slots table page held ps) [] stops
slots_stop half slots table page [] held = (refl, inr refl)
slots_stop half slots table page (p ∷ ps) held = inr (refl, tt)

pub tables_stop : (pages : ℕ) (test : ℕ → ℕ → Plan) (table : ℕ) (entries : List TableEntry) → Brings (tables_plan pages test table entries) [] stops
tables_stop pages test table [] = (refl, inr refl)
tables_stop pages test table (entry ∷ entries) = inr (refl, tt)

-- A page that is answered as damaged was read in the test, or is one of these.
unfoldable pub Owns : (ℕ → Type 0) → Plan → Type 0
Owns Known plan = (read : List Excerpt) (bad : ℕ) → Brings plan read (fails bad) → Known bad ⊎ IsReadFrom bad read

pub owns_end : (Known : ℕ → Type 0) → Owns Known at_end
unfolding Owns
owns_end Known read bad brings = elim brings.1 [ inl is ↦ absurd (cc) | inr is ↦ absurd (cc) ]

pub owns_holding : (Known : ℕ → Type 0) (Holds : Type 0) (page : ℕ) (rest : Plan) → Known page → Owns Known rest → Owns Known (holding Holds page rest)
unfolding Owns
owns_holding Known Holds page rest known owns read bad (inl brings) = owns read bad brings.1
owns_holding Known Holds page rest known owns read bad (inr over) = inl (subst (λ (p : ℕ). Known p) (sym over.1.1) known)

pub owns_reading : (Known : ℕ → Type 0) (page at len : ℕ) (next : List ℕ → Plan) → ((said : List ℕ) → Owns (λ p. Known p ⊎ (p ≡ page)) (next said)) → Owns Known (reading page at len next)
unfolding Owns
owns_reading Known page at len next owns [] bad brings = absurd (cc)
owns_reading Known page at len next owns (e ∷ es) bad brings = elim brings.3 [
  | inl more ↦ elim (owns e.said es bad more) [
    | inl known ↦ elim known [ inl before ↦ inl before | inr here ↦ inr (inl (here ∙ sym brings.0)) ]
    | inr later ↦ inr (inr later)
  ]
  | inr stop ↦ absurd (let is = stop.1 in cc)
]

read_later : (bad : ℕ) (first later : List Excerpt) → IsReadFrom bad later → IsReadFrom bad (first ++ later)
read_later bad [] later is = is
read_later bad (e ∷ es) later is = inr (read_later bad es later is)

pub owns_turn : (Known : ℕ → Type 0) (one other : Plan) → Owns Known one → Owns Known other → Owns Known (in_turn one other)
unfolding Owns
owns_turn Known one other owns owns' read bad (inl turn) = elim (owns' turn.1 bad turn.4) [ inl known ↦ inl known | inr later ↦ inr (subst (λ (es : List Excerpt). IsReadFrom bad es) (sym turn.2) (read_later bad turn.0 turn.1 later)) ]
owns_turn Known one other owns owns' read bad (inr turn) = owns read bad turn.1

owns_held : (Known : ℕ → Type 0) (held : Option Reading) (page : ℕ) (next : List ℕ → Plan) → IfSome held (λ h. Known h.0) → ((said : List ℕ) → Owns (λ p. Known p ⊎ (p ≡ page)) (next said)) → Owns Known (with_page held page next)
unfolding Owns
owns_held Known None page next known owns = owns_reading Known page 0 512 next owns
owns_held Known (Some h) page next known owns = elim (eqb_tells h.0 page) [
  | inl same ↦ rw same.0 (λ read bad brings. elim (owns h.1 read bad brings) [
    | inl is ↦ elim is [ inl before ↦ inl before | inr here ↦ inl (subst (λ (p : ℕ). Known p) (same.1 ∙ sym here) known) ]
    | inr later ↦ inr later
  ])
  | inr other ↦ rw other.0 (owns_reading Known page 0 512 next owns)
]

pub owns_slot : (Known : ℕ → Type 0) (half slots table page : ℕ) (held : Option Reading) (pair : Pair) (next : Option Reading → Plan) → Known page → IfSome held (λ h. Known h.0)
    → ((now : Option Reading) → ((Later : ℕ → Type 0) → ((p : ℕ) → Known p → Later p) → IfSome now (λ h. Later h.0) → Owns Later (next now))) → Owns Known (slot_plan half slots table page held pair next)
owns_slot Known half slots table page held pair next known is owns =
    owns_holding Known _ page _ known (owns_held Known held _ _ is (λ said. owns_holding _ _ _ _ (inr refl) (owns (Some _) _ (λ p before. inl before) (inr refl))))

pub owns_slots : (Known : ℕ → Type 0) (half slots table page : ℕ) (held : Option Reading) (ps : List Pair) → Known page → IfSome held (λ h. Known h.0) → Owns Known (slots_plan half slots table page held ps)
owns_slots Known half slots table page held [] known is = owns_end Known
owns_slots Known half slots table page held (p ∷ ps) known is =
    owns_slot Known half slots table page held p (λ now. slots_plan half slots table page now ps) known is (λ now Later more here. owns_slots Later half slots table page now ps (more page known) here)

-- Tables that have come so far: those behind a number are left.
module _ {tells : Bool} {calls calls_mid : Command → ℕ} {whole : Plan} {old mid : StoreView} (pages : ℕ) (test : ℕ → ℕ → Plan) where
  module _ (tables : List TableEntry) (table : ℕ) where
    pub table_over : root_in tables table ≡ None → SoFar tells calls calls_mid (tables_plan pages test table (drop table tables)) whole old mid → (let r : Result (Unit {0}) CheckFault = Ok tt in Tries tells calls calls_mid whole old mid r)
    table_over none so = so_passes tt (subst (λ (ts : List TableEntry). SoFar tells calls calls_mid (tables_plan pages test table ts) whole old mid) (none_at tables table none) so)

    module _ (root : ℕ) where
      table_here : root_in tables table ≡ Some root → SoFar tells calls calls_mid (tables_plan pages test table (drop table tables)) whole old mid
          → SoFar tells calls calls_mid (holding (root < pages) 0 (in_turn (test root table) (tables_plan pages test (suc table) (drop (suc table) tables)))) whole old mid
      table_here is so =
          let e = entry_at tables table root is in
          subst (λ (r : ℕ). SoFar tells calls calls_mid (holding (r < pages) 0 (in_turn (test r table) (tables_plan pages test (suc table) (drop (suc table) tables)))) whole old mid) e.2
          (subst (λ (ts : List TableEntry). SoFar tells calls calls_mid (tables_plan pages test table ts) whole old mid) e.1 so)

      pub table_named : root_in tables table ≡ Some root → SoFar tells calls calls_mid (tables_plan pages test table (drop table tables)) whole old mid → root < pages
          → SoFar tells calls calls_mid (in_turn (test root table) (tables_plan pages test (suc table) (drop (suc table) tables))) whole old mid
      table_named is so less = so_holds _ _ _ (table_here is so) less

      pub table_fails : root_in tables table ≡ Some root → SoFar tells calls calls_mid (tables_plan pages test table (drop table tables)) whole old mid → (root < pages → ⊥)
          → (let r : Result (Unit {0}) CheckFault = Err (Damaged 0) in Tries tells calls calls_mid whole old mid r)
      table_fails is so not = so_bad _ _ _ (table_here is so) not

      module _ {calls_now : Command → ℕ} {new : StoreView} (still : IsStill tells old mid) (shape : mid.shape ≡ old.shape)
          (so : SoFar tells calls calls_mid (in_turn (test root table) (tables_plan pages test (suc table) (drop (suc table) tables))) whole old mid) where
        pub table_goes : (x : Unit {0}) → (let r : Result (Unit {0}) CheckFault = Ok x in Tries tells calls_mid calls_now (test root table) mid new r) → SoFar tells calls calls_now (tables_plan pages test (suc table) (drop (suc table) tables)) whole old new
        table_goes x tries = so_then still shape (test root table) (tables_plan pages test (suc table) (drop (suc table) tables)) x so tries

        pub table_stops : (fault : CheckFault) → (let r : Result (Unit {0}) CheckFault = Err fault in Tries tells calls_mid calls_now (test root table) mid new r) → (let r : Result (Unit {0}) CheckFault = Err fault in Tries tells calls calls_now whole old new r)
        table_stops fault tries = so_fails still shape (test root table) (tables_plan pages test (suc table) (drop (suc table) tables)) fault so tries

  -- no table is left after eight
  pub table_last : (version : ℕ) (entries : List ℕ) (table : ℕ) → 8 ≤ table → SoFar tells calls calls_mid (tables_plan pages test table (drop table (tables_in version entries))) whole old mid
      → (let r : Result (Unit {0}) CheckFault = Ok tt in Tries tells calls calls_mid whole old mid r)
  table_last version entries table all so =
      so_passes tt (subst (λ (ts : List TableEntry). SoFar tells calls calls_mid (tables_plan pages test table ts) whole old mid) (none_left version entries table all) so)

-- A list of what is free that has come so far: so many are left, the next one named by this page.
module _ {tells : Bool} {calls calls_mid : Command → ℕ} {whole : Plan} {old mid : StoreView} (said : ℕ → (Option Free → Plan) → Plan) (page_of : ℕ → ℕ) (low end : ℕ) where
  pub so_member : (n m named page : ℕ) → n ≡ suc m → SoFar tells calls calls_mid (list_plan said page_of low end n named page) whole old mid
      → SoFar tells calls calls_mid (holding (Names low end named) page (said (named - 1) (λ free. holding (HasRank (suc m) free) (page_of (named - 1)) (list_plan said page_of low end m (next_of free) (page_of (named - 1)))))) whole old mid
  so_member n m named page is so = subst (λ (k : ℕ). SoFar tells calls calls_mid (list_plan said page_of low end k named page) whole old mid) is so

  pub so_listed : (n named page : ℕ) → n ≡ 0 → SoFar tells calls calls_mid (list_plan said page_of low end n named page) whole old mid → SoFar tells calls calls_mid (holding (named ≡ 0) page at_end) whole old mid
  so_listed n named page is so = subst (λ (k : ℕ). SoFar tells calls calls_mid (list_plan said page_of low end k named page) whole old mid) is so

  -- a member has the rank, and names the next one
  pub so_ranked : (n m named : ℕ) (free : Option Free) (is : Free) (to at : ℕ) → n ≡ suc m → SoFar tells calls calls_mid (holding (HasRank (suc m) free) (page_of (named - 1)) (list_plan said page_of low end m (next_of free) (page_of (named - 1)))) whole old mid
      → free ≡ Some is → is.rank ≡ n → to ≡ is.next → at ≡ page_of (named - 1) → SoFar tells calls calls_mid (list_plan said page_of low end m to at) whole old mid
  so_ranked n m named free is to at many so found rank next here =
      let ranked : HasRank (suc m) free = subst (λ (o : Option Free). HasRank (suc m) o) (sym found) (rank ∙ many) in
      let goes : next_of free ≡ to = ap next_of found ∙ sym next in
      subst (λ (p : ℕ). SoFar tells calls calls_mid (list_plan said page_of low end m to p) whole old mid) (sym here)
      (subst (λ (x : ℕ). SoFar tells calls calls_mid (list_plan said page_of low end m x (page_of (named - 1))) whole old mid) goes (so_holds _ _ _ so ranked))

pub owns_list : (Known : ℕ → Type 0) (said : ℕ → (Option Free → Plan) → Plan) (page_of : ℕ → ℕ) (low end n named page : ℕ)
    → ((Here : ℕ → Type 0) (m : ℕ) (next : Option Free → Plan) → ((free : Option Free) → Owns (λ p. Here p ⊎ (p ≡ page_of m)) (next free)) → Owns Here (said m next)) → Known page → Owns Known (list_plan said page_of low end n named page)
owns_list Known said page_of low end zero named page reads known = owns_holding Known _ page _ known (owns_end Known)
owns_list Known said page_of low end (suc n) named page reads known =
    owns_holding Known _ page _ known (reads Known (named - 1) _ (λ free. owns_holding _ _ _ _ (inr refl) (owns_list (λ p. Known p ⊎ (p ≡ page_of (named - 1))) said page_of low end n (next_of free) (page_of (named - 1)) reads (inr refl))))

pub owns_tables : (Known : ℕ → Type 0) (pages : ℕ) (test : ℕ → ℕ → Plan) (table : ℕ) (entries : List TableEntry) → Known 0 → ((root table : ℕ) → Owns Known (test root table)) → Owns Known (tables_plan pages test table entries)
owns_tables Known pages test table [] first owns = owns_end Known
owns_tables Known pages test table (entry ∷ entries) first owns = owns_holding Known _ 0 _ first (owns_turn Known _ _ (owns entry.root table) (owns_tables Known pages test (suc table) entries first owns))

pub owns_lists : (Known : ℕ → Type 0) (half : ℕ) (front : Super) → Known 0 → Owns Known (lists_plan half front)
owns_lists Known half front first =
    owns_turn Known (free_slots_plan half front) (free_pages_plan front)
    (owns_list Known (free_slot_plan half) (λ slot. half + slot / 8) 0 front.next_slot front.free_slots front.free_slot 0
    (λ Here m next owns. owns_reading Here (half + m / 8) (m % 8 * 64) 64 (λ said. next (free_said 0xF0 2 said)) (λ said. owns (free_said 0xF0 2 said))) first)
    (owns_list Known free_page_plan (λ page. page) 2 front.next_page front.free_pages front.free_page 0
    (λ Here m next owns. owns_reading Here m 0 512 (λ said. next (free_said 0xFF 4 said)) (λ said. owns (free_said 0xFF 4 said))) first)

pub owns_index : (form : ℕ) (test : Shape → Super → ℕ → ℕ → Plan) (shape : Shape) → ((Known : ℕ → Type 0) (front : Super) (root table : ℕ) → Owns Known (test shape front root table)) → Owns (λ p. ⊥) (index_plan form test shape)
owns_index form test shape owns =
    owns_reading _ 0 0 512 _ (λ said. owns_holding _ _ 0 _ (inr refl)
    (owns_turn _ (lists_plan (index_pages_of shape) (front_said said)) (tables_plan (next_said 12 said) (test shape (front_said said)) 0 (tables_in (version_said said) (entries_said said)))
    (owns_lists _ (index_pages_of shape) (front_said said) (inr refl))
    (owns_tables _ (next_said 12 said) (test shape (front_said said)) 0 (tables_in (version_said said) (entries_said said)) (inr refl) (λ root table. owns _ (front_said said) root table))))

-- a test whose answer names a page that was read
there_of : (count bad : ℕ) (read : List Excerpt) → AreOfArray count read → IsReadFrom bad read → bad < count
there_of count bad [] are is = absurd is
there_of count bad (e ∷ es) are (inl here) = subst (λ (p : ℕ). p < count) (sym here) are.0
there_of count bad (e ∷ es) are (inr later) = there_of count bad es are.1 later

pub tests_of : {T : Type 0} {tells : Bool} {calls calls_now : Command → ℕ} (plan : Plan) {old new : StoreView} (r : Result T CheckFault) → Owns (λ p. ⊥) plan → Tries tells calls calls_now plan old new r → Tests tells calls calls_now plan old new r
unfolding Owns
tests_of {T} {tells} {calls} {calls_now} plan {old} {new} r owns tries = record { read = tries.read; reads = tries.reads; brings = tries.brings; blames = named r tries.brings }
  where
    named : (r : Result T CheckFault) → Brings plan tries.read (outcome_of r) → IfSome (blamed_check r) (λ page. (page < page_count old.shape) × IsReadFrom page tries.read)
    named (Ok x) brings = tt
    named (Err (Damaged bad)) brings = (let is : IsReadFrom bad tries.read = elim (owns tries.read bad brings) [ inl none ↦ absurd none | inr from ↦ from ] in (there_of (page_count old.shape) bad tries.read tries.reads.there is, is))
    named (Err Media) brings = tt
    named (Err Dead) brings = tt
    named (Err NoMemory) brings = tt

-- The super page was read, and said this.
front_eq : (said : List ℕ) (front : Super) → front ≡ front_said said → (P : Super → Plan) → P (front_said said) ≡ P front
front_eq said front is P = ap P (sym is)

module _ (form : ℕ) (test : Shape → Super → ℕ → ℕ → Plan) (tells : Bool) (calls calls_now : Command → ℕ) (shape : Shape) (old new : StoreView) (said : List ℕ) where
  pub front_read : (front : Super) → (let r : Result Super PageFault = Ok front in HasRead tells false calls calls_now old new (one_reading 0 said (page_bytes old.state.bytes 0) r)) → (let r : Result Super PageFault = Ok front in IsTested form shape said r)
      → SoFar tells calls calls_now (in_turn (lists_plan (index_pages_of shape) front) (tables_plan front.next_page (test shape front) 0 (tables_in front.version front.entries))) (index_plan form test shape) old new
  front_read front reads tested =
      subst (λ (p : Plan). SoFar tells calls calls_now p (index_plan form test shape) old new)
      (front_eq said front tested.1 (λ f. in_turn (lists_plan (index_pages_of shape) f) (tables_plan f.next_page (test shape f) 0 (tables_in f.version f.entries))))
      (so_holds _ _ _ (so_page (still_same tells old) refl 0 _ said (so_first (index_plan form test shape)) reads) tested.0)

  pub front_err : (there : List ℕ) (fault : PageFault) (told : CheckFault) → told ≡ as_check fault → (Good : Type 0) → (let r : Result Super PageFault = Err fault in TestCause tells Good 0 old r)
      → (let r : Result Super PageFault = Err fault in HasRead tells (is_failed r) calls calls_now old new (one_reading 0 said there r)) → (let r : Result Super PageFault = Err fault in IsTested form shape said r)
      → (let r : Result (Unit {0}) CheckFault = Err told in Tries tells calls calls_now (index_plan form test shape) old new r)
  front_err there faults.Media told is Good cause reads tested =
      subst (λ (f : CheckFault). (let r : Result (Unit {0}) CheckFault = Err f in Tries tells calls calls_now (index_plan form test shape) old new r)) (sym is)
      (so_unread (still_same tells old) refl 0 0 512 _ there (so_first (index_plan form test shape)) (bytes_page 0 there reads))
  front_err there faults.Dead told is Good cause reads tested =
      subst (λ (f : CheckFault). (let r : Result (Unit {0}) CheckFault = Err f in Tries tells calls calls_now (index_plan form test shape) old new r)) (sym is)
      (record { read = []; reads = bytes_still reads; brings = refl })
  front_err there (faults.Damaged bad) told is Good cause reads tested =
      subst (λ (f : CheckFault). (let r : Result (Unit {0}) CheckFault = Err f in Tries tells calls calls_now (index_plan form test shape) old new r)) (sym is)
      (subst (λ (n : ℕ). (let r : Result (Unit {0}) CheckFault = Err (Damaged n) in Tries tells calls calls_now (index_plan form test shape) old new r)) (sym cause.1)
      (so_bad _ _ _ (so_page (still_same tells old) refl 0 _ said (so_first (index_plan form test shape)) reads) tested))
  front_err there (faults.LogFull g h n) told is Good cause reads tested = absurd cause
  front_err there faults.SavesFull told is Good cause reads tested = absurd cause

-- what a super page says, as it is read
pub front_says : (said : List ℕ) (front : Super) → SaysSuper said front → front ≡ front_said said
front_says said front says = λ i. record {
  version = says.version i;
  form = says.form i;
  next_slot = says.next_slot i;
  next_page = says.next_page i;
  entries = says.entries i;
  free_slot = says.free_slot i;
  free_page = says.free_page i;
  free_slots = says.free_slots i;
  free_pages = says.free_pages i;
}

pub front_fault : (form : ℕ) (shape : Shape) (said : List ℕ) (old : StoreView) (fault : PageFault) → (let r : Result (Unit {0}) PageFault = Err fault in ReadCause old r) → (let r : Result Super PageFault = Err fault in IsFrontOf form shape said r)
front_fault form shape said old faults.Media cause = tt
front_fault form shape said old faults.Dead cause = tt
front_fault form shape said old (faults.Damaged bad) cause = absurd cause
front_fault form shape said old (faults.LogFull g h n) cause = absurd cause
front_fault form shape said old faults.SavesFull cause = absurd cause

pub tested_fault : (form : ℕ) (shape : Shape) (said : List ℕ) (fault : PageFault) → (let r : Result Super PageFault = Err fault in IsFrontOf form shape said r) → (let r : Result Super PageFault = Err fault in IsTested form shape said r)
tested_fault form shape said faults.Media is = tt
tested_fault form shape said faults.Dead is = tt
tested_fault form shape said (faults.Damaged bad) is = λ f. is f.mark f.form_is f.slots f.some f.pages
tested_fault form shape said (faults.LogFull g h n) is = tt
tested_fault form shape said faults.SavesFull is = tt

-- with its entries or without
pub tested_front : (form : ℕ) (shape : Shape) (said : List ℕ) (front : Super) → SaysSuper said front → front.form ≡ form → IsFront shape front → HasTables front.version front.next_page front.entries → (let r : Result Super PageFault = Ok front in IsTested form shape said r)
tested_front form shape said front says form_is is tables = (
  record {
    mark = says.has_mark;
    form_is = sym says.form ∙ form_is;
    slots = omega (arith, is.slots, says.next_slot);
    some = omega (arith, is.some, says.next_page);
    pages = omega (arith, is.pages, says.next_page);
    tables = subst (λ (f : Super). HasTables f.version f.next_page f.entries) (front_says said front says) tables;
  },
  front_says said front says,
)

pub untested_front : (form : ℕ) (shape : Shape) (said : List ℕ) (front : Super) → SaysSuper said front → (HasTables front.version front.next_page front.entries → ⊥) → IsFrontSaid form shape said → ⊥
untested_front form shape said front says not f = not (subst (λ (x : Super). HasTables x.version x.next_page x.entries) (sym (front_says said front says)) f.tables)
