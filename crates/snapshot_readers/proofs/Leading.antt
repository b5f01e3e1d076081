-- What waits leads from what is shown to all of the list.
use Rattle.std.proofs.Common.{◌≡◌, ℕ, List, [], ◌∷◌, ◌++◌, length, drop, fold, refl, sym, ap, ◌∙◌}
use Rattle.std.proofs.Math.Seq.{drop-append_seam}
use Rattle.std.proofs.lemmas.List.{append-nil}
use Rattle.std.proofs.lemmas.List.Sums.{fold-append}
use Rattle.std.specs.FinMap.{entries, same_entries_map}
use Rattle.std.specs.Global.{Vec}
use Rattle.history.specs.declared.transaction.Done.{Done}
use Rattle.snapshot_readers.specs.Batches.{Batch, with_batch, records_after}
use Rattle.history.specs.Writes.{Table, Write as Written, all_written}
use Rattle.snapshot_readers.proofs.Joining.{append-more, records_after-append, records_after-more}
use Rattle.snapshot_readers.specs.declared.prefix.Prefix.{Prefix}
use Rattle.snapshot_readers.specs.declared.snapshot.Snapshot.{Snapshot}
use Rattle.snapshot_readers.specs.declared.snapshot.Change.{Change}
use Rattle.snapshot_readers.specs.declared.snapshot.Change.TheVariants.{Write, Tell}
use Rattle.snapshot_readers.specs.Waiting.{IsWaiting}
use Rattle.snapshot_readers.specs.Shown.{changed, list_of, Leads}

-- one change more
pub fold-more : (x : Snapshot) (waiting : List Change) (change : Change) → fold changed x (waiting ++ change ∷ []) ≡ changed (fold changed x waiting) change
fold-more x waiting change = fold-append changed x waiting (change ∷ [])

-- with the list after what is shown
leads_by : (x : Snapshot) (waiting : List Change) (list : Prefix) (rest : List Batch) → x.list.seen.book ≡ list.seen.book → list_of x ++ rest ≡ list.seen.log
    → (fold changed x waiting).records ≡ records_after x.records rest → Leads x waiting list
leads_by x waiting list rest book whole right =
    let same : drop (length (list_of x)) list.seen.log ≡ rest = ap (drop (length (list_of x))) (sym whole) ∙ drop-append_seam (list_of x) rest in
    (book, ap (λ (r : List Batch). list_of x ++ r) same ∙ whole, ap entries (right ∙ ap (records_after x.records) (sym same)))

-- the records to which it leads
records_led : (x : Snapshot) (waiting : List Change) (list : Prefix) → Leads x waiting list → (fold changed x waiting).records ≡ records_after x.records (drop (length (list_of x)) list.seen.log)
records_led x waiting list h = same_entries_map (fold changed x waiting).records (records_after x.records (drop (length (list_of x)) list.seen.log)) h.2

-- the writes of a batch more wait
pub leads_more : (x : Snapshot) (waiting now : List Change) (list next : Prefix) (dones : List Done) → Leads x waiting list
    → next.seen.book ≡ list.seen.book → next.seen.log ≡ with_batch list.seen.log dones → IsWaiting waiting now dones → Leads x now next
leads_more x waiting now list next dones h book log more =
    let writes : Vec Written = more.0 in
    let rest : List Batch = drop (length (list_of x)) list.seen.log in
    let last : fold changed x now ≡ changed (fold changed x waiting) (Write writes) = ap (fold changed x) more.1 ∙ fold-more x waiting (Write writes) in
    leads_by x now next (with_batch rest dones) (h.0 ∙ sym book)
    (append-more (list_of x) rest dones ∙ ap (λ (l : List Batch). with_batch l dones) h.1 ∙ sym log)
    (ap (λ (s : Snapshot). s.records) last ∙ ap (λ (t : Table). all_written t writes.items) (records_led x waiting list h) ∙ sym (more.2 (records_after x.records rest)) ∙ sym (records_after-more x.records rest dones))

-- what the last change tells changes no records
pub leads_told : (x : Snapshot) (waiting : List Change) (list : Prefix) (count : ℕ) → Leads x waiting list → Leads x (waiting ++ Tell list count ∷ []) list
leads_told x waiting list count h = (h.0, h.1, ap (λ (s : Snapshot). entries s.records) (fold-more x waiting (Tell list count)) ∙ h.2)

-- what is shown next is right
pub right_next : (x next : Snapshot) (waiting : List Change) (list : Prefix) (count : ℕ) → Leads x waiting list → next ≡ fold changed x (waiting ++ Tell list count ∷ [])
    → (next.list.seen.book ≡ x.list.seen.book) × ((base : Table) → x.records ≡ records_after base (list_of x) → next.records ≡ records_after base (list_of next))
right_next x next waiting list count h is =
    let rest : List Batch = drop (length (list_of x)) list.seen.log in
    let now : next ≡ changed (fold changed x waiting) (Tell list count) = is ∙ fold-more x waiting (Tell list count) in
    let log : list_of next ≡ list.seen.log = ap list_of now in (
      ap (λ (s : Snapshot). s.list.seen.book) now ∙ sym h.0,
      λ base right. ap (λ (s : Snapshot). s.records) now ∙ records_led x waiting list h ∙ ap (λ (t : Table). records_after t rest) right ∙ sym (records_after-append base (list_of x) rest)
          ∙ ap (records_after base) (h.1 ∙ sym log),
    )

-- what was shown leads to itself
pub leads_shown : (x : Snapshot) (list : Prefix) → x.list ≡ list → Leads x [] list
leads_shown x list is = leads_by x [] list [] (ap (λ (f : Prefix). f.seen.book) is) (append-nil (list_of x) ∙ ap (λ (f : Prefix). f.seen.log) is) refl

pub list_next : (x next : Snapshot) (waiting : List Change) (list : Prefix) (count : ℕ) → next ≡ fold changed x (waiting ++ Tell list count ∷ []) → next.list ≡ list
list_next x next waiting list count is = ap (λ (s : Snapshot). s.list) (is ∙ fold-more x waiting (Tell list count))

pub count_next : (x next : Snapshot) (waiting : List Change) (list : Prefix) (count : ℕ) → next ≡ fold changed x (waiting ++ Tell list count ∷ []) → next.count ≡ count
count_next x next waiting list count is = ap (λ (s : Snapshot). s.count) (is ∙ fold-more x waiting (Tell list count))
