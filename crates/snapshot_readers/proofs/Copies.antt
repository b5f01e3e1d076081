-- Two first copies are alike.
use Rattle.std.proofs.Common.{◌≡◌, ℕ, sym, ◌∙◌}
use Rattle.history.specs.Writes.{Table}
use Rattle.snapshot_readers.specs.declared.prefix.Prefix.{Prefix}
use Rattle.snapshot_readers.specs.declared.snapshot.Snapshot.{Snapshot}

pub same_copies : (x y : Snapshot) (table : Table) (list : Prefix) (count : ℕ) → (x.records ≡ table) × (x.list ≡ list) × (x.count ≡ count) → (y.records ≡ table) × (y.list ≡ list) × (y.count ≡ count) → x ≡ y
same_copies x y table list count a b =
    let rows : x.records ≡ y.records = a.0 ∙ sym b.0 in
    let fronts : x.list ≡ y.list = a.1 ∙ sym b.1 in
    let counts : x.count ≡ y.count = a.2 ∙ sym b.2 in
    (λ i. record { records = rows i; list = fronts i; count = counts i })
