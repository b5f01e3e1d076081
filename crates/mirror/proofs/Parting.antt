-- What may still come of a frame, part by part and group by group.
use Rattle.std.proofs.Common.{◌≡◌, ℕ, suc, ◌+◌, ◌-◌, ◌%◌, ◌/◌, ◌^◌, ◌<◌, ◌≤◌, List, [], ◌∷◌, ◌++◌, length, refl, sym, ◌∙◌, ap, subst, arith, append_assoc}
use Rattle.std.specs.Prelude.{◌↔◌, All, flat_map, slice_index}
use Rattle.std.proofs.Math.Nat.{mod-lt, div-lt_iff_lt-mul, div-add-mod'}
use Rattle.std.proofs.lemmas.List.Elements.{All-nil, All-cons, All-head, All-tail}
use Rattle.byteorder.specs.Endian.{little_bytes}
use Rattle.array_shape.specs.declared.shape.Shape.{Shape}
use Rattle.array_shape.specs.Places.{IsShape, data_len, page_count, logger_of}
use Rattle.array_shape.specs.Logged.{Part, ranges_of}
use Rattle.mirror.specs.declared.to_come.Groups.{Groups}
use Rattle.mirror.specs.declared.to_come.Parts.{Parts}
use Rattle.eaw_face.specs.Frame.{Group, part_bytes, group_bytes, IsPart, IsGroup, Rise, IsInside, IsGroupIn}
use Rattle.mirror.specs.Rest.{NumberRest, GroupsRest, IsPartsRest, NumberThen, HasRoom, AfterLength, AfterAddress, AfterPartCount, one_more, behind}
use Rattle.mirror.proofs.Numbers.{number_first, number_whole}
use Rattle.mirror.proofs.Holding.{room_over, free_here, none_held}

-- a page that begins within the data ends there
page_inside : (shape : Shape) (addr len : ℕ) → addr < data_len shape → addr % 512 + len ≤ 512 → addr + len ≤ data_len shape
page_inside shape addr len within stripe =
    let page : addr / 512 < page_count shape = (div-lt_iff_lt-mul {k = 512} {x = addr} {y = page_count shape} (omega arith)).1 (omega (arith, within)) in
    omega (arith, div-add-mod' addr 512, page, stripe)

-- four pieces one behind the other
four : (a b c d e : List ℕ) → ((a ++ b ++ c) ++ d) ++ e ≡ a ++ (b ++ (c ++ (d ++ e)))
four a b c d e =
    append_assoc (a ++ b ++ c) d e
    ∙ append_assoc (a ++ b) c (d ++ e)
    ∙ append_assoc a b (c ++ (d ++ e))

module _ (shape : Shape) (shaped : IsShape shape) (parts : Parts) where
  first_part : (p : Part) (ps : List Part) → suc (length ps) ≡ parts.count → IsPart p → All IsPart ps → IsInside shape p → All (IsInside shape) ps
      → HasRoom shape parts.held (p ∷ ps)
      → (bytes rest : List ℕ) → bytes ≡ flat_map part_bytes (p ∷ ps) ++ rest → GroupsRest shape parts.behind rest → NumberRest 8 0 1 (AfterAddress shape parts) bytes
  first_part p ps count is are inside insides room bytes rest said after =
      let k = logger_of shape p.0 in
      let logger : k < shape.loggers = mod-lt (p.0 / 512) (omega (arith, shaped.some_loggers)) in
      let within : k < length parts.held = omega (arith, logger, shaped.most_loggers, parts.loggers) in
      let held = one_more parts.held k in
      let r1 = little_bytes 2 (length p.1) ++ (p.1 ++ (flat_map part_bytes ps ++ rest)) in
      let r2 = p.1 ++ (flat_map part_bytes ps ++ rest) in
      let free : slice_index parts.held k < shape.entries = free_here shape parts.held (p.0, length p.1) (ranges_of ps) within (room k logger) in
      let addr : p.0 < data_len shape = omega (arith, inside, is.1) in
      number_first (AfterAddress shape parts) 8 bytes p.0 r1 is.0 (said ∙ four (little_bytes 8 p.0) (little_bytes 2 (length p.1)) p.1 (flat_map part_bytes ps) rest) (
        addr,
        free,
        number_first (AfterLength shape p.0 (parts.count - 1) held parts.behind) 2 r1 (length p.1) r2 (omega (arith, is.2)) refl (
          is.1,
          is.2,
          record {
            first = p.1;
            count = refl;
            small = is.3;
            rest = flat_map part_bytes ps ++ rest;
            is = refl;
            after = record {
              list = ps;
              count = omega (arith, count);
              are = are;
              inside = insides;
              room = λ g lt. (room_over shape parts.held (p.0, length p.1) (ranges_of ps) within free g).0 (room g lt);
              rest = rest;
              is = refl;
              after = after;
            };
          },
        ),
      )

  some_parts : (list : List Part) → length list ≡ parts.count → 0 < parts.count → All IsPart list → All (IsInside shape) list
      → HasRoom shape parts.held list
      → (bytes rest : List ℕ) → bytes ≡ flat_map part_bytes list ++ rest → GroupsRest shape parts.behind rest → NumberRest 8 0 1 (AfterAddress shape parts) bytes
  some_parts [] count some are inside room bytes rest said after = absurd (omega (arith, count, some))
  some_parts (p ∷ ps) count some are inside room bytes rest said after =
      first_part p ps (omega (arith, count)) (All-head IsPart p ps are) (All-tail IsPart p ps are) (All-head (IsInside shape) p ps inside) (All-tail (IsInside shape) p ps inside) room bytes rest said after

  -- from a part on: its address, its length, its bytes, and what is behind it
  pub part_splits : 0 < parts.count → (bytes : List ℕ) → IsPartsRest shape parts bytes ↔ NumberRest 8 0 1 (AfterAddress shape parts) bytes
  part_splits some bytes = (
    (λ r. some_parts r.list r.count some r.are r.inside r.room bytes r.rest r.is r.after),
    (λ r.
        let addressed = number_whole (AfterAddress shape parts) 8 bytes r in
        let k = logger_of shape r.high in
        let held = one_more parts.held k in
        let lengths = number_whole (AfterLength shape r.high (parts.count - 1) held parts.behind) 2 r.rest addressed.2 in
        let len = addressed.2.high in
        let b = lengths.2 in
        let q = b.after in
        let logger : k < shape.loggers = mod-lt (r.high / 512) (omega (arith, shaped.some_loggers)) in
        let within : k < length parts.held = omega (arith, logger, shaped.most_loggers, parts.loggers) in
        let inside : r.high + length b.first ≤ data_len shape = page_inside shape r.high (length b.first) addressed.0 (omega (arith, lengths.1, b.count)) in
        record {
          list = (r.high, b.first) ∷ q.list;
          count = omega (arith, q.count, some);
          are = All-cons IsPart (r.high, b.first) q.list (r.fits, omega (arith, lengths.0, b.count), omega (arith, lengths.1, b.count), b.small) q.are;
          inside = All-cons (IsInside shape) (r.high, b.first) q.list inside q.inside;
          room = λ g lt. (room_over shape parts.held (r.high, length b.first) (ranges_of q.list) within addressed.1 g).1 (q.room g lt);
          rest = q.rest;
          is =
              r.is
              ∙ ap (λ (l : List ℕ). little_bytes 8 r.high ++ l)
              (addressed.2.is
              ∙ (λ i. little_bytes 2 (sym b.count i) ++ (b.is i))
              ∙ ap (λ (l : List ℕ). little_bytes 2 (length b.first) ++ (b.first ++ l)) q.is)
              ∙ sym (four (little_bytes 8 r.high) (little_bytes 2 (length b.first)) b.first (flat_map part_bytes q.list) q.rest);
          after = q.after;
        }),
  )

-- behind the last part come the groups
module _ (shape : Shape) (parts : Parts) (none : parts.count ≡ 0) (bytes : List ℕ) where
  nothing : (list : List Part) → length list ≡ 0 → (rest : List ℕ) → bytes ≡ flat_map part_bytes list ++ rest → GroupsRest shape parts.behind rest → GroupsRest shape parts.behind bytes
  nothing [] count rest is after = subst (GroupsRest shape parts.behind) (sym is) after
  nothing (p ∷ ps) count rest is after = absurd (omega (arith, count))

  pub no_parts : IsPartsRest shape parts bytes ↔ GroupsRest shape parts.behind bytes
  no_parts = (
    (λ r. nothing r.list (r.count ∙ none) r.rest r.is r.after),
    (λ r. record {
      list = [];
      count = sym none;
      are = All-nil IsPart;
      inside = All-nil (IsInside shape);
      room = λ g lt. omega arith;
      rest = bytes;
      is = refl;
      after = r;
    }),
  )

-- numbers that rise from `low` on, all of them of the shape
pub rise_most : (shape : Shape) (low : ℕ) (groups : List Group) → low ≤ shape.numbers → Rise low groups → All (IsGroupIn shape) groups → low + length groups ≤ shape.numbers
rise_most shape low [] least rise good = omega (arith, least)
rise_most shape low (g ∷ gs) least rise good =
    let here = All-head (IsGroupIn shape) g gs good in
    let rest = rise_most shape (g.number + 1) gs (omega (arith, here.0)) rise.1 (All-tail (IsGroupIn shape) g gs good) in
    omega (arith, rest, rise.0)

-- from a group on: its number, the count of its parts, its parts, and what is behind it
module _ (shape : Shape) (shaped : IsShape shape) (groups : Groups) where
  first_group : (g : Group) (gs : List Group) → suc (length gs) ≡ groups.count → (groups.low ≤ g.number) × Rise (g.number + 1) gs → IsGroup g → All IsGroup gs → IsGroupIn shape g → All (IsGroupIn shape) gs
      → (bytes : List ℕ) → bytes ≡ flat_map group_bytes (g ∷ gs) → NumberThen shape groups bytes
  first_group g gs count rise is are good goods bytes said =
      let r1 = little_bytes 2 (length g.parts) ++ (flat_map part_bytes g.parts ++ flat_map group_bytes gs) in
      record {
        number = g.number;
        least = rise.0;
        most = good.0;
        rest = r1;
        is = said ∙ ap (λ (l : List ℕ). g.number ∷ l) (append_assoc (little_bytes 2 (length g.parts)) (flat_map part_bytes g.parts) (flat_map group_bytes gs));
        after = number_first (AfterPartCount shape (behind groups g.number)) 2 r1 (length g.parts) (flat_map part_bytes g.parts ++ flat_map group_bytes gs) is.2 refl (
          is.1,
          record {
            list = g.parts;
            count = refl;
            are = is.3;
            inside = good.1;
            room = λ k lt. let fits = good.2 k lt in let none = none_held k (omega (arith, lt, shaped.most_loggers)) in omega (arith, fits, none);
            rest = flat_map group_bytes gs;
            is = refl;
            after = record { list = gs; count = omega (arith, count); rise = rise.1; are = are; good = goods; is = refl };
          },
        );
      }

  some_groups : (list : List Group) → length list ≡ groups.count → 0 < groups.count → Rise groups.low list → All IsGroup list → All (IsGroupIn shape) list
      → (bytes : List ℕ) → bytes ≡ flat_map group_bytes list → NumberThen shape groups bytes
  some_groups [] count some rise are good bytes said = absurd (omega (arith, count, some))
  some_groups (g ∷ gs) count some rise are good bytes said =
      first_group g gs (omega (arith, count)) rise (All-head IsGroup g gs are) (All-tail IsGroup g gs are) (All-head (IsGroupIn shape) g gs good) (All-tail (IsGroupIn shape) g gs good) bytes said

  pub group_splits : 0 < groups.count → (bytes : List ℕ) → GroupsRest shape groups bytes ↔ NumberThen shape groups bytes
  group_splits some bytes = (
    (λ r. some_groups r.list r.count some r.rise r.are r.good bytes r.is),
    (λ r.
        let counted = number_whole (AfterPartCount shape (behind groups r.number)) 2 r.rest r.after in
        let q = counted.1 in
        let next = q.after in
        let g : Group = record { number = r.number; parts = q.list } in
        let is : IsGroup g = (omega (arith, r.most, shaped.most_numbers), omega (arith, counted.0, q.count), subst (λ (n : ℕ). n < 256 ^ 2) (sym q.count) r.after.fits, q.are) in
        let good : IsGroupIn shape g = (
          r.most,
          q.inside,
          (λ k lt. let fits = q.room k lt in let none = none_held k (omega (arith, lt, shaped.most_loggers)) in omega (arith, fits, none)),
        ) in
        record {
          list = g ∷ next.list;
          count = omega (arith, next.count, some);
          rise = (r.least, next.rise);
          are = All-cons IsGroup g next.list is next.are;
          good = All-cons (IsGroupIn shape) g next.list good next.good;
          is =
              r.is
              ∙ ap (λ (l : List ℕ). r.number ∷ l)
              (r.after.is
              ∙ (λ i. little_bytes 2 (sym q.count i) ++ q.is i)
              ∙ ap (λ (l : List ℕ). little_bytes 2 (length q.list) ++ (flat_map part_bytes q.list ++ l)) next.is
              ∙ sym (append_assoc (little_bytes 2 (length q.list)) (flat_map part_bytes q.list) (flat_map group_bytes next.list)));
        }),
  )

-- behind the last group comes nothing
module _ (shape : Shape) (groups : Groups) (none : groups.count ≡ 0) (bytes : List ℕ) where
  no_group : (list : List Group) → length list ≡ 0 → bytes ≡ flat_map group_bytes list → bytes ≡ []
  no_group [] count is = is
  no_group (g ∷ gs) count is = absurd (omega (arith, count))

  pub no_groups : GroupsRest shape groups bytes ↔ (bytes ≡ [])
  no_groups = (
    (λ r. no_group r.list (r.count ∙ none) r.is),
    (λ is. record { list = []; count = sym none; rise = tt; are = All-nil IsGroup; good = All-nil (IsGroupIn shape); is = is }),
  )
