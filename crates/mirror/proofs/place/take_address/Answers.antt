use Rattle.std.proofs.Common.{ℕ, [], length, ◌≡◌, ◌<◌, ◌≤◌, ◌-◌, ◌/◌, inl, inr, arith, ◌∙◌, subst, sym, mod-lt}
use Rattle.std.specs.Prelude.{◌↔◌, slice_index}
use Rattle.array_shape.specs.Places.{data_len, logger_of}
use Rattle.mirror.specs.Rest.{NumberRest, AfterAddress, AfterLength, one_more, total}
use Rattle.mirror.proofs.Numbers.{number_goes, number_ends, number_begins, both_ways}
use Rattle.mirror.proofs.Holding.{total_more}
use Rattle.mirror.proofs.place.take_address.Goals as goal

pub returns-then-number-gt0 : goal.returns-then-number-gt0
returns-then-number-gt0 c =
    let n = c.args.number in
    let next = c.take-number.result in (
      (c.if-number-gt0.true, c.requires.parts, c.requires.entries),
      inl (omega (arith, c.requires.number, c.take-number.ensures.left)),
      λ bytes.
          number_goes (AfterAddress c.args.shape c.args.parts) n.left next.left n.value n.weight next.value next.weight c.args.byte c.ranges.byte.fits c.requires.number c.take-number.ensures.left c.take-number.ensures.value c.take-number.ensures.weight bytes,
    )

pub returns : goal.returns
returns c =
    let n = c.args.number in
    let next = c.take-number.result in
    let last : 0 < next.left → ⊥ = λ some. omega (arith, some, c.if-number-gt0.false) in
    let shape = c.args.shape in
    let parts = c.args.parts in
    let logger : c.from-logger.result ≡ logger_of shape next.value = c.from-logger.ensures ∙ c.place.ensures.logger in
    let within : next.value < data_len shape = omega (arith, c.if-addr-data_len.false, c.data_len.ensures) in
    let free : slice_index parts.held (logger_of shape next.value) < shape.entries = subst (λ (k : ℕ). slice_index parts.held k < shape.entries) logger (omega (arith, c.if-parts-logger.false)) in
    let small : logger_of shape next.value < shape.loggers = mod-lt (next.value / 512) (omega (arith, shape.in_range.some_loggers)) in
    let inside : logger_of shape next.value < length parts.held = omega (arith, small, shape.in_range.most_loggers, parts.loggers) in
    let more = total_more shape parts.held (next.value, 1) [] inside free shape.loggers small in
    let fewer : parts.count - 1 ≤ total (λ g. shape.entries - slice_index (one_more parts.held (logger_of shape next.value)) g) shape.loggers = omega (arith, c.requires.entries.0, more) in (
      (omega (arith, c.new.ensures.left), (subst (λ (k : ℕ). parts.count - 1 ≤ total (λ g. shape.entries - slice_index (one_more parts.held k) g) shape.loggers) (sym logger) fewer, c.requires.entries.1)),
      inr (c.new.ensures.left, c.new.ensures.value, c.new.ensures.weight),
      λ bytes.
          let begins = number_begins (AfterLength shape next.value (parts.count - 1) (one_more parts.held (logger_of shape next.value)) parts.behind) 2 c.new.result.left c.new.result.value c.new.result.weight c.new.ensures.left c.new.ensures.value c.new.ensures.weight bytes in
          both_ways
          (number_ends (AfterAddress c.args.shape c.args.parts) n.left next.left n.value n.weight next.value c.args.byte c.ranges.byte.fits c.requires.number c.take-number.ensures.left last c.take-number.ensures.value bytes)
          (subst (λ (k : ℕ). AfterAddress shape parts next.value bytes ↔ NumberRest c.new.result.left c.new.result.value c.new.result.weight (AfterLength shape next.value (parts.count - 1) (one_more parts.held k) parts.behind) bytes)
          (sym logger) ((λ all. begins.0 all.2), (λ rest. (within, free, begins.1 rest)))),
    )
