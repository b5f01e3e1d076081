use Rattle.std.proofs.Common.{◌≡◌, ℕ, List, take, drop, ◌∙◌, subst, arith}
use Rattle.std.specs.Prelude.{IfOk, IfErr, slice_index}
use Rattle.byteorder.specs.Endian.{little_from}
use Rattle.array_shape.specs.Numbers.{IsFirstBad}
use Rattle.array_shape.specs.Places.{HasNumbers}
use Rattle.row_bytes.specs.Header.{entries_said, pages_said}
use Rattle.row_bytes.proofs.Saying.{little_from-piece}
use Rattle.row_bytes.proofs.Heading.{entries_said-is, pages_said-is}
use Rattle.row_bytes.proofs.header.read_shape.Goals as goal

entries_are : (bytes : List ℕ) (n : ℕ) → n ≡ little_from 0 2 (take 502 (drop 10 bytes)) → n ≡ entries_said bytes
entries_are bytes n is = entries_said-is bytes n (is ∙ little_from-piece 10 2 502 bytes (omega arith))

pages_are : (bytes : List ℕ) (n : ℕ) → n ≡ little_from 0 4 (take 500 (drop 12 bytes)) → n ≡ pages_said bytes
pages_are bytes n is = pages_said-is bytes n (is ∙ little_from-piece 12 4 500 bytes (omega arith))

pub returns-clause-shape : goal.returns-clause-shape
returns-clause-shape c =
    let entries = entries_are c.args.bytes.now c.read_u16-entries.result c.read_u16-entries.ensures in
    let pages = pages_are c.args.bytes.now c.read_u32-pages.result c.read_u32-pages.ensures in
    subst (λ (n : ℕ × ℕ). IfOk c.new.result (HasNumbers (slice_index c.args.bytes.now 8) (slice_index c.args.bytes.now 9) n.0 n.1)) (λ i. (entries i, pages i)) c.new.ensures.shape

pub returns-clause-bad : goal.returns-clause-bad
returns-clause-bad c =
    let entries = entries_are c.args.bytes.now c.read_u16-entries.result c.read_u16-entries.ensures in
    let pages = pages_are c.args.bytes.now c.read_u32-pages.result c.read_u32-pages.ensures in
    subst (λ (n : ℕ × ℕ). IfErr c.new.result (λ bad. IsFirstBad (slice_index c.args.bytes.now 8) (slice_index c.args.bytes.now 9) n.0 n.1 bad.which bad.given)) (λ i. (entries i, pages i)) c.new.ensures.bad
