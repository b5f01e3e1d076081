-- What looks read and what they cost: one read, none, and one after another.
use Rattle.std.proofs.Common.{◌≡◌, ◌≢◌, ℕ, ◌+◌, ◌<◌, ◌≤◌, Bool, true, false, List, [], ◌∷◌, ◌++◌, length, Option, Some, Result, Ok, Err, refl, sym, ◌∙◌, ap, subst, arith}
use Rattle.std.specs.Prelude.{IsTrue, OnOk, IfErr}
use Rattle.std.specs.List.{AllByRecursion}
use Rattle.std.proofs.lemmas.Bool.{false≢true}
use Rattle.mars_base.specs.Costs.{Costs}
use Rattle.array_shape.specs.declared.shape.Shape.{Shape}
use Rattle.array_shape.specs.Places.{page_count}
use Rattle.eaw_face.specs.Command.{Command}
use Rattle.eaw_face.specs.Command as store
use Rattle.eaw_face.specs.State.{State}
use Rattle.eaw_face.specs.StoreView.{StoreView}
use Rattle.record_slots.specs.Places.{page_bytes}
use Rattle.page_store.specs.Command as pages
use Rattle.page_store.specs.Does.{Does}
use Rattle.page_store.specs.Course.{Reading, IsWay, AreThere, AreSaid}
use Rattle.page_store.specs.Follows.{HasRead, Walks, IsLast, one_reading, reads_cost}
use Rattle.page_store.specs.Looks.{IsStill, is_failed}
use Rattle.page_store.specs.Shown.{PagesView, address}
use Rattle.page_store.specs.declared.fault.PageFault.{PageFault}
use Rattle.page_store.specs.declared.fault.PageFault.TheVariants.{LogFull, SavesFull, Media, Dead, Damaged}
use Rattle.index_pages.specs.Fetched.{ReadCause, TestCause}

-- nothing was read
pub reads_none : (tells : Bool) (calls : Command → ℕ) (old : StoreView) → HasRead tells false calls calls old old []
reads_none tells calls old = record { there = tt; said = λ told. tt; most = omega arith; exact = λ well. omega arith; steady = λ well command. refl }

-- one page was read, or the store was dead
pub reads_one : {T : Type 0} (tells : Bool) (calls calls_now : Command → ℕ) (old new : StoreView) (page : ℕ) (said : List ℕ) (r : Result T PageFault) (n : ℕ) → n ≡ 512
    → page < page_count old.shape → ReadCause old r → Costs true (calls (store.read (address page 0) n)) old.moment new.moment r → OnOk r ((command : Command) → calls_now command ≡ calls command)
    → (IsTrue tells → OnOk r (said ≡ page_bytes old.state.bytes page)) → (r ≡ Err Dead → (new.moment ≡ old.moment) × ((command : Command) → calls_now command ≡ calls command))
    → HasRead tells (is_failed r) calls calls_now old new (one_reading page said (page_bytes old.state.bytes page) r)
reads_one tells calls calls_now old new page said (Ok x) n is_n there cause costs steady is same = record {
  there = (there, tt);
  said = λ told. (is told, tt);
  most = omega (arith, costs.most, ap (λ (k : ℕ). calls (store.read (address page 0) k)) is_n);
  exact = λ well. omega (arith, costs.done refl, ap (λ (k : ℕ). calls (store.read (address page 0) k)) is_n);
  steady = λ well. steady;
}
reads_one tells calls calls_now old new page said (Err Media) n is_n there cause costs steady is same = record {
  there = (there, tt);
  said = λ told. (refl, tt);
  most = omega (arith, costs.most, ap (λ (k : ℕ). calls (store.read (address page 0) k)) is_n);
  exact = λ well. absurd (false≢true (sym well));
  steady = λ well. absurd (false≢true (sym well));
}
reads_one tells calls calls_now old new page said (Err Dead) n is_n there cause costs steady is same = record {
  there = tt;
  said = λ told. tt;
  most = omega (arith, (same refl).0);
  exact = λ well. omega (arith, (same refl).0);
  steady = λ well. (same refl).1;
}
reads_one tells calls calls_now old new page said (Err (LogFull g h k)) n is_n there cause costs steady is same = absurd cause
reads_one tells calls calls_now old new page said (Err SavesFull) n is_n there cause costs steady is same = absurd cause
reads_one tells calls calls_now old new page said (Err (Damaged bad)) n is_n there cause costs steady is same = absurd cause

-- what holds of all of two lists
pub every_append : {A : Type 0} (P : A → Type 0) (xs ys : List A) → AllByRecursion P xs → AllByRecursion P ys → AllByRecursion P (xs ++ ys)
every_append P [] ys are are' = are'
every_append P (x ∷ xs) ys are are' = (are.0, every_append P xs ys are.1 are')

cost_append : (calls : Command → ℕ) (later first : List Reading) → reads_cost calls (later ++ first) ≡ reads_cost calls later + reads_cost calls first
cost_append calls [] first = omega arith
cost_append calls (r ∷ rs) first = omega (arith, cost_append calls rs first)

cost_same : (calls other : Command → ℕ) (reads : List Reading) → ((command : Command) → other command ≡ calls command) → reads_cost other reads ≡ reads_cost calls reads
cost_same calls other [] same = refl
cost_same calls other (r ∷ rs) same = omega (arith, same (store.read (address r.0 0) 512), cost_same calls other rs same)

-- pages that were read without a fault, and others after them
pub reads_then : (tells failed : Bool) (calls calls_mid calls_now : Command → ℕ) (old mid new : StoreView) (first later : List Reading) → IsStill tells old mid → mid.shape ≡ old.shape
    → HasRead tells false calls calls_mid old mid first → HasRead tells failed calls_mid calls_now mid new later → HasRead tells failed calls calls_now old new (later ++ first)
reads_then tells failed calls calls_mid calls_now old mid new first later still shape one two =
    let all = cost_append calls later first in
    let same = cost_same calls calls_mid later (one.steady refl) in
    record {
      there = every_append (λ (r : Reading). r.0 < page_count old.shape) later first (subst (λ (s : Shape). AreThere (page_count s) later) shape two.there) one.there;
      said = λ told. every_append (λ (r : Reading). r.1 ≡ page_bytes old.state.bytes r.0) later first (subst (λ (s : State). AreSaid s.bytes later) (still.state told) (two.said told)) (one.said told);
      most = omega (arith, all, same, one.exact refl, two.most);
      exact = λ well. omega (arith, all, same, one.exact refl, two.exact well);
      steady = λ well command. two.steady well command ∙ one.steady refl command;
    }

-- a fault of a read, in a call with answers of another kind
pub reads_err : (T U : Type 0) (tells : Bool) (calls calls_now : Command → ℕ) (old new : StoreView) (page : ℕ) (said there : List ℕ) (fault : PageFault)
    → (let r : Result T PageFault = Err fault in HasRead tells (is_failed r) calls calls_now old new (one_reading page said there r))
    → (let s : Result U PageFault = Err fault in HasRead tells (is_failed s) calls calls_now old new (one_reading page said there s))
reads_err T U tells calls calls_now old new page said there Media reads = reads
reads_err T U tells calls calls_now old new page said there Dead reads = reads
reads_err T U tells calls calls_now old new page said there (Damaged bad) reads = reads
reads_err T U tells calls calls_now old new page said there (LogFull g h n) reads = reads
reads_err T U tells calls calls_now old new page said there SavesFull reads = reads

-- So many pages were read without a fault, each as it was to be, and the last of them is `last`. The one to be read next is `page`.
pub record OnCourse (tells : Bool) (calls calls_now : Command → ℕ) (goes : List Reading → Option ℕ) (steps page last : ℕ) (old new : StoreView) : Type 0 where
  pub read : List Reading
  pub reads : HasRead tells false calls calls_now old new read
  pub way : IsWay goes read
  pub count : length read ≡ steps
  pub next : goes read ≡ Some page
  pub last_is : 0 < steps → IsLast read last

abbrev pub on_first : (tells : Bool) (calls : Command → ℕ) (goes : List Reading → Option ℕ) (page last : ℕ) (old : StoreView) → goes [] ≡ Some page → OnCourse tells calls calls goes 0 page last old old
on_first tells calls goes page last old start = record { read = []; reads = reads_none tells calls old; way = tt; count = refl; next = start; last_is = λ some. absurd (omega arith) }

module _ (tells : Bool) (calls calls_mid calls_now : Command → ℕ) (goes : List Reading → Option ℕ) (steps page last : ℕ) (old mid new : StoreView) (still : IsStill tells old mid) (shape : mid.shape ≡ old.shape)
    (on : OnCourse tells calls calls_mid goes steps page last old mid) where
  -- one page more
  abbrev pub on_step : (said : List ℕ) (child : ℕ) → HasRead tells false calls_mid calls_now mid new ((page, said) ∷ []) → ((read : List Reading) → goes ((page, said) ∷ read) ≡ Some child)
      → OnCourse tells calls calls_now goes (steps + 1) child page old new
  on_step said child reads leads = record {
    read = (page, said) ∷ on.read;
    reads = reads_then tells false calls calls_mid calls_now old mid new on.read ((page, said) ∷ []) still shape on.reads reads;
    way = (on.next, on.way);
    count = omega (arith, on.count);
    next = leads on.read;
    last_is = λ some. refl;
  }

  module _ {T : Type 0} (most : ℕ) (Ends : T → List Reading → Type 0) where
    -- the page answers
    pub on_end : (said : List ℕ) (x : T) → steps < most → HasRead tells false calls_mid calls_now mid new ((page, said) ∷ []) → Ends x ((page, said) ∷ on.read)
        → Walks tells calls calls_now goes most Ends old new (Ok x)
    on_end said x few reads ends = record {
      read = (page, said) ∷ on.read;
      reads = reads_then tells false calls calls_mid calls_now old mid new on.read ((page, said) ∷ []) still shape on.reads reads;
      way = (on.next, on.way);
      few = omega (arith, on.count);
      ends = ends;
      blames = tt;
    }

    -- the page is damaged
    pub on_bad : (said : List ℕ) → steps < most → HasRead tells false calls_mid calls_now mid new ((page, said) ∷ []) → Walks tells calls calls_now goes most Ends old new (Err (Damaged page))
    on_bad said few reads = record {
      read = (page, said) ∷ on.read;
      reads = reads_then tells false calls calls_mid calls_now old mid new on.read ((page, said) ∷ []) still shape on.reads reads;
      way = (on.next, on.way);
      few = omega (arith, on.count);
      ends = tt;
      blames = refl;
    }

    -- the read of the page failed, or its test
    pub on_err : (U : Type 0) (Good : Type 0) (said there : List ℕ) (fault : PageFault) → steps < most
        → (let r : Result U PageFault = Err fault in HasRead tells (is_failed r) calls_mid calls_now mid new (one_reading page said there r))
        → (let r : Result U PageFault = Err fault in TestCause tells Good page mid r) → Walks tells calls calls_now goes most Ends old new (Err fault)
    on_err U Good said there Media few reads cause = record {
      read = (page, there) ∷ on.read;
      reads = reads_then tells true calls calls_mid calls_now old mid new on.read ((page, there) ∷ []) still shape on.reads reads;
      way = (on.next, on.way);
      few = omega (arith, on.count);
      ends = tt;
      blames = tt;
    }
    on_err U Good said there Dead few reads cause = record {
      read = on.read;
      reads = reads_then tells false calls calls_mid calls_now old mid new on.read [] still shape on.reads reads;
      way = on.way;
      few = omega (arith, on.count);
      ends = tt;
      blames = tt;
    }
    on_err U Good said there (Damaged bad) few reads cause = record {
      read = (page, said) ∷ on.read;
      reads = reads_then tells false calls calls_mid calls_now old mid new on.read ((page, said) ∷ []) still shape on.reads reads;
      way = (on.next, on.way);
      few = omega (arith, on.count);
      ends = tt;
      blames = sym cause.1;
    }
    on_err U Good said there (LogFull g h n) few reads cause = absurd cause
    on_err U Good said there SavesFull few reads cause = absurd cause

-- as many pages were read as may be, and the last one leads on
pub on_out : {T : Type 0} (tells : Bool) (calls calls_now : Command → ℕ) (goes : List Reading → Option ℕ) (steps page last : ℕ) (old new : StoreView) (most : ℕ) (Ends : T → List Reading → Type 0)
    → OnCourse tells calls calls_now goes steps page last old new → 0 < steps → steps ≤ most → Walks tells calls calls_now goes most Ends old new (Err (Damaged last))
on_out tells calls calls_now goes steps page last old new most Ends on some few = record { read = on.read; reads = on.reads; way = on.way; few = omega (arith, on.count); ends = tt; blames = on.last_is some }

-- An answer of one look as that of another, which goes the same way and may read no fewer pages.
module _ {T U : Type 0} (tells : Bool) (calls calls_now : Command → ℕ) (goes to : List Reading → Option ℕ) (most many : ℕ) (Ends : T → List Reading → Type 0) (Then : U → List Reading → Type 0) (old new : StoreView)
    (same : (read : List Reading) → IsWay goes read → IsWay to read) (more : most ≤ many) where
  -- an answer that follows from the other
  pub walks_ok : (x : T) (y : U) → Walks tells calls calls_now goes most Ends old new (Ok x) → ((read : List Reading) → IsWay goes read → Ends x read → Then y read) → Walks tells calls calls_now to many Then old new (Ok y)
  walks_ok x y walks then = record { read = walks.read; reads = walks.reads; way = same walks.read walks.way; few = omega (arith, walks.few, more); ends = then walks.read walks.way walks.ends; blames = tt }

  -- the last page turns out to be damaged
  pub walks_bad : (x : T) (bad : ℕ) → Walks tells calls calls_now goes most Ends old new (Ok x) → ((read : List Reading) → Ends x read → IsLast read bad) → Walks tells calls calls_now to many Then old new (Err (Damaged bad))
  walks_bad x bad walks last = record { read = walks.read; reads = walks.reads; way = same walks.read walks.way; few = omega (arith, walks.few, more); ends = tt; blames = last walks.read walks.ends }

  -- a refusal passed on
  pub walks_err : (fault : PageFault) → Walks tells calls calls_now goes most Ends old new (Err fault) → Walks tells calls calls_now to many Then old new (Err fault)
  walks_err Media walks = record { read = walks.read; reads = walks.reads; way = same walks.read walks.way; few = omega (arith, walks.few, more); ends = tt; blames = tt }
  walks_err Dead walks = record { read = walks.read; reads = walks.reads; way = same walks.read walks.way; few = omega (arith, walks.few, more); ends = tt; blames = tt }
  walks_err (Damaged bad) walks = record { read = walks.read; reads = walks.reads; way = same walks.read walks.way; few = omega (arith, walks.few, more); ends = tt; blames = walks.blames }
  walks_err (LogFull g h n) walks = record { read = walks.read; reads = walks.reads; way = same walks.read walks.way; few = omega (arith, walks.few, more); ends = tt; blames = tt }
  walks_err SavesFull walks = record { read = walks.read; reads = walks.reads; way = same walks.read walks.way; few = omega (arith, walks.few, more); ends = tt; blames = tt }

-- why a read of pages got its answer, and that nothing was done if the store was dead
pub read_cause : (tells : Bool) (Opens : List ℕ → List ℕ → Type 0) (old new : PagesView) (r : Result (Unit {0}) PageFault) → Does tells Opens pages.read old new r → ReadCause old.store r
read_cause tells Opens old new (Ok x) does = does.cause.0
read_cause tells Opens old new (Err Media) does = does.cause.0
read_cause tells Opens old new (Err Dead) does = does.cause
read_cause tells Opens old new (Err (LogFull g h n)) does = absurd does.cause.1
read_cause tells Opens old new (Err SavesFull) does = absurd does.cause.1
read_cause tells Opens old new (Err (Damaged bad)) does = absurd does.cause

pub read_dead : {P : Type 0} (r : Result (Unit {0}) PageFault) → IfErr r (λ fault. fault ≢ Media → P) → r ≡ Err Dead → P
read_dead (Ok x) same dead = absurd (cc)
read_dead (Err Dead) same dead = same (λ is. cc)
read_dead (Err Media) same dead = absurd (cc)
read_dead (Err (LogFull g h n)) same dead = absurd (cc)
read_dead (Err SavesFull) same dead = absurd (cc)
read_dead (Err (Damaged bad)) same dead = absurd (cc)
