-- What was packed is read again as it was.
use Rattle.std.proofs.Common.{◌≡◌, ◌<◌, ◌≤◌, ◌+◌, ◌^◌, ◌++◌, [], ◌∷◌, ℕ, zero, suc, Bool, true, false, List, length, take, drop, refl, ap, sym, ◌∙◌, arith, subst, get_or, ◌-◌}
use Rattle.std.specs.Prelude.{nat_eq, nat_lt, if◌then◌else◌}
use Rattle.std.specs.List.{All, flat_map}
use Rattle.std.specs.Int.{w64, from_le_bytes}
use Rattle.std.proofs.lemmas.List.Elements.{All-nil, All-cons, All-head, All-tail, All-append}
use Rattle.std.proofs.lemmas.Nat.{from_le_bytes-to_le_bytes_8}
use Rattle.std.proofs.lemmas.List.{take_at, drop_at, take_more, append_assoc, length-append, flat_map_more}
use Rattle.std.proofs.lemmas.Bool.{le-ltb}
use lib.Pointwise.{pointwise}
use Rattle.record_slots.specs.Text.{IsName}
use Rattle.history.specs.Key.{main_name}
use Rattle.history.specs.Writes.{Row}
use Rattle.history.specs.declared.call.TableCall.{TableCall}
use Rattle.history.specs.declared.call.TableCall.TheVariants.{Get, Put, Del, Scan, Save, Back}
use Rattle.history.specs.declared.call.Reply.{Reply}
use Rattle.history.specs.declared.call.Reply.TheVariants.{Fine, Found, Absent, Listed, Saved, Committed, Purged, NoTransaction, NoTable, Already, NoSave, SavesFull, Busy, LogFull, SlotsFull, PagesFull, Media, Dead, NoMemory, Damaged}
use Rattle.history.specs.Packed.{word, word_at, texted, text_at, kept_name, whole_name, name_at, call_bytes, get_at, put_at, del_at, scan_at, call_at, CanCall, CanRow, row_bytes, row_at, rows_at, reply_bytes, number_at, listed_at, log_full_at, reply_at, CanReply, entry_bytes, CanEnter, entries_within, entries_in, ArePacked}
use Rattle.history.proofs.Keys.{name_decides}

pub word_read : (n : ℕ) (rest : List ℕ) → n < 2 ^ 64 → word_at (word n ++ rest) ≡ (n, rest)
word_read n rest small =
    let sizes : length (word n ++ rest) ≡ 8 + length rest = length-append (word n) rest in
    let long : nat_lt (length (word n ++ rest)) 8 ≡ false = le-ltb (length (word n ++ rest)) 8 (omega (arith, sizes)) in
    let number : from_le_bytes w64 (take 8 (word n ++ rest)) ≡ n = ap (from_le_bytes w64) (take_at (word n) rest 8 refl) ∙ from_le_bytes-to_le_bytes_8 n small in
    let behind : drop 8 (word n ++ rest) ≡ rest = drop_at (word n) rest 8 refl in
    let read : (from_le_bytes w64 (take 8 (word n ++ rest)), drop 8 (word n ++ rest)) ≡ (n, rest) = λ i. (number i, behind i) in
    ap (λ (b : Bool). if b then (0, word n ++ rest) else (from_le_bytes w64 (take 8 (word n ++ rest)), drop 8 (word n ++ rest))) long ∙ read

pub text_read : (text rest : List ℕ) → text_at (texted text ++ rest) ≡ (text, rest)
text_read text rest = λ i. (take_at text rest (length text) refl i, drop_at text rest (length text) refl i)

whole_some : (name : List ℕ) → 0 < length name → whole_name name ≡ name
whole_some [] some = absurd (omega (arith, some))
whole_some (letter ∷ letters) some = refl

-- the name that is kept is the name again
name_whole : (name : List ℕ) → IsName name → whole_name (kept_name name) ≡ name
name_whole name is = go (pointwise nat_eq name main_name) refl
  where
    go : (b : Bool) → pointwise nat_eq name main_name ≡ b → whole_name (if b then [] else name) ≡ name
    go true same = sym ((name_decides name main_name).0 same)
    go false other = whole_some name is.some

name_read : (name rest : List ℕ) → IsName name → name_at (texted (kept_name name) ++ rest) ≡ (name, rest)
name_read name rest is =
    let read = text_read (kept_name name) rest in
    let whole : whole_name (text_at (texted (kept_name name) ++ rest)).0 ≡ name = ap (λ (p : List ℕ × List ℕ). whole_name p.0) read ∙ name_whole name is in
    λ i. (whole i, (read i).1)

get_read : (bytes table more : List ℕ) (key : ℕ) (rest : List ℕ) → name_at bytes ≡ (table, more) → word_at more ≡ (key, rest) → get_at bytes ≡ (Get table key, rest)
get_read bytes table more key rest named keyed =
    ap (λ (p : List ℕ × List ℕ). let k = word_at p.1 in (Get p.0 k.0, k.1)) named ∙ ap (λ (q : ℕ × List ℕ). (Get table q.0, q.1)) keyed

put_read : (bytes table more : List ℕ) (key : ℕ) (rest value behind : List ℕ) → name_at bytes ≡ (table, more) → word_at more ≡ (key, rest) → text_at rest ≡ (value, behind)
    → put_at bytes ≡ (Put table key value, behind)
put_read bytes table more key rest value behind named keyed told =
    ap (λ (p : List ℕ × List ℕ). let k = word_at p.1 in let v = text_at k.1 in (Put p.0 k.0 v.0, v.1)) named
    ∙ ap (λ (q : ℕ × List ℕ). let v = text_at q.1 in (Put table q.0 v.0, v.1)) keyed ∙ ap (λ (r : List ℕ × List ℕ). (Put table key r.0, r.1)) told

del_read : (bytes table more : List ℕ) (key : ℕ) (rest : List ℕ) → name_at bytes ≡ (table, more) → word_at more ≡ (key, rest) → del_at bytes ≡ (Del table key, rest)
del_read bytes table more key rest named keyed =
    ap (λ (p : List ℕ × List ℕ). let k = word_at p.1 in (Del p.0 k.0, k.1)) named ∙ ap (λ (q : ℕ × List ℕ). (Del table q.0, q.1)) keyed

scan_read : (bytes table more : List ℕ) (low : ℕ) (rest : List ℕ) (high : ℕ) (behind : List ℕ) → name_at bytes ≡ (table, more) → word_at more ≡ (low, rest) → word_at rest ≡ (high, behind)
    → scan_at bytes ≡ (Scan table low high, behind)
scan_read bytes table more low rest high behind named from to =
    ap (λ (p : List ℕ × List ℕ). let l = word_at p.1 in let h = word_at l.1 in (Scan p.0 l.0 h.0, h.1)) named
    ∙ ap (λ (q : ℕ × List ℕ). let h = word_at q.1 in (Scan table q.0 h.0, h.1)) from ∙ ap (λ (r : ℕ × List ℕ). (Scan table low r.0, r.1)) to

-- a call is read as it was packed
pub call_read : (call : TableCall) (rest : List ℕ) → CanCall call → call_at (call_bytes call ++ rest) ≡ (call, rest)
call_read (Get table key) rest can =
    ap get_at (append_assoc (texted (kept_name table)) (word key) rest)
    ∙ get_read (texted (kept_name table) ++ (word key ++ rest)) table (word key ++ rest) key rest (name_read table (word key ++ rest) can.0) (word_read key rest can.1)
call_read (Put table key value) rest can =
    ap put_at (append_assoc (texted (kept_name table) ++ word key) (texted value) rest ∙ append_assoc (texted (kept_name table)) (word key) (texted value ++ rest))
    ∙ put_read (texted (kept_name table) ++ (word key ++ (texted value ++ rest))) table (word key ++ (texted value ++ rest)) key (texted value ++ rest) value rest
    (name_read table (word key ++ (texted value ++ rest)) can.0) (word_read key (texted value ++ rest) can.1) (text_read value rest)
call_read (Del table key) rest can =
    ap del_at (append_assoc (texted (kept_name table)) (word key) rest)
    ∙ del_read (texted (kept_name table) ++ (word key ++ rest)) table (word key ++ rest) key rest (name_read table (word key ++ rest) can.0) (word_read key rest can.1)
call_read (Scan table low high) rest can =
    ap scan_at (append_assoc (texted (kept_name table) ++ word low) (word high) rest ∙ append_assoc (texted (kept_name table)) (word low) (word high ++ rest))
    ∙ scan_read (texted (kept_name table) ++ (word low ++ (word high ++ rest))) table (word low ++ (word high ++ rest)) low (word high ++ rest) high rest
    (name_read table (word low ++ (word high ++ rest)) can.0) (word_read low (word high ++ rest) can.1) (word_read high rest can.2)
call_read Save rest can = refl
call_read (Back save) rest can = ap (λ (p : ℕ × List ℕ). (Back p.0, p.1)) (word_read save rest (omega (arith, can)))

row_read : (row : Row) (rest : List ℕ) → row.0 < 2 ^ 64 → row_at (row_bytes row ++ rest) ≡ (row, rest)
row_read row rest small =
    ap row_at (append_assoc (word row.0) (texted row.1) rest)
    ∙ ap (λ (p : ℕ × List ℕ). let v = text_at p.1 in ((p.0, v.0), v.1)) (word_read row.0 (texted row.1 ++ rest) small)
    ∙ ap (λ (q : List ℕ × List ℕ). ((row.0, q.0), q.1)) (text_read row.1 rest)

rows_read : (rows : List Row) (rest : List ℕ) → All CanRow rows → rows_at (length rows) (flat_map row_bytes rows ++ rest) ≡ (rows, rest)
rows_read [] rest small = refl
rows_read (row ∷ rows) rest small =
    let can : CanRow row = All-head CanRow row rows small in
    ap (rows_at (suc (length rows))) (append_assoc (row_bytes row) (flat_map row_bytes rows) rest)
    ∙ ap (λ (p : Row × List ℕ). let rs = rows_at (length rows) p.1 in (p.0 ∷ rs.0, rs.1)) (row_read row (flat_map row_bytes rows ++ rest) can.0)
    ∙ ap (λ (q : List Row × List ℕ). (row ∷ q.0, q.1)) (rows_read rows rest (All-tail CanRow row rows small))

number_read : (reply : ℕ → Reply) (n : ℕ) (rest : List ℕ) → n < 2 ^ 64 → number_at reply (word n ++ rest) ≡ (reply n, rest)
number_read reply n rest small = ap (λ (p : ℕ × List ℕ). (reply p.0, p.1)) (word_read n rest small)

log_full_read : (logger held needed : ℕ) (rest : List ℕ) → logger < 2 ^ 64 → held < 2 ^ 64 → needed < 2 ^ 64
    → log_full_at (word logger ++ word held ++ word needed ++ rest) ≡ (LogFull logger held needed, rest)
log_full_read logger held needed rest a b c =
    ap log_full_at (append_assoc (word logger ++ word held) (word needed) rest ∙ append_assoc (word logger) (word held) (word needed ++ rest))
    ∙ ap (λ (p : ℕ × List ℕ). let h = word_at p.1 in let n = word_at h.1 in (LogFull p.0 h.0 n.0, n.1)) (word_read logger (word held ++ (word needed ++ rest)) a)
    ∙ ap (λ (q : ℕ × List ℕ). let n = word_at q.1 in (LogFull logger q.0 n.0, n.1)) (word_read held (word needed ++ rest) b)
    ∙ ap (λ (r : ℕ × List ℕ). (LogFull logger held r.0, r.1)) (word_read needed rest c)

listed_read : (rows : List Row) (rest : List ℕ) → CanReply (Listed rows) → listed_at (word (length rows) ++ flat_map row_bytes rows ++ rest) ≡ (Listed rows, rest)
listed_read rows rest can =
    ap listed_at (append_assoc (word (length rows)) (flat_map row_bytes rows) rest)
    ∙ ap (λ (p : ℕ × List ℕ). let rs = rows_at p.0 p.1 in (Listed rs.0, rs.1)) (word_read (length rows) (flat_map row_bytes rows ++ rest) can.0)
    ∙ ap (λ (q : List Row × List ℕ). (Listed q.0, q.1)) (rows_read rows rest can.1)

-- a reply is read as it was packed
pub reply_read : (reply : Reply) (rest : List ℕ) → CanReply reply → reply_at (reply_bytes reply ++ rest) ≡ (reply, rest)
reply_read Fine rest can = refl
reply_read (Found value) rest can = ap (λ (p : List ℕ × List ℕ). (Found p.0, p.1)) (text_read value rest)
reply_read Absent rest can = refl
reply_read (Listed rows) rest can = listed_read rows rest can
reply_read (Saved n) rest can = number_read Saved n rest (omega (arith, can))
reply_read (Committed n) rest can = number_read Committed n rest can
reply_read NoTransaction rest can = refl
reply_read NoTable rest can = refl
reply_read Already rest can = refl
reply_read (NoSave save) rest can = number_read NoSave save rest (omega (arith, can))
reply_read SavesFull rest can = refl
reply_read (Busy holder) rest can = number_read Busy holder rest (omega (arith, can))
reply_read (LogFull logger held needed) rest can = log_full_read logger held needed rest (omega (arith, can.0)) (omega (arith, can.1)) (omega (arith, can.2))
reply_read (SlotsFull slots) rest can = number_read SlotsFull slots rest (omega (arith, can))
reply_read (PagesFull pages) rest can = number_read PagesFull pages rest (omega (arith, can))
reply_read Media rest can = refl
reply_read Dead rest can = refl
reply_read NoMemory rest can = refl
reply_read (Damaged page) rest can = number_read Damaged page rest (omega (arith, can))
reply_read (Purged n) rest can = number_read Purged n rest (omega (arith, can))

-- a call has at least the byte of its kind
call_some : (call : TableCall) → (kind : ℕ) × (bytes : List ℕ) × (call_bytes call ≡ kind ∷ bytes)
call_some (Get table key) = (1, texted (kept_name table) ++ word key, refl)
call_some (Put table key value) = (2, texted (kept_name table) ++ word key ++ texted value, refl)
call_some (Del table key) = (3, texted (kept_name table) ++ word key, refl)
call_some (Scan table low high) = (4, texted (kept_name table) ++ word low ++ word high, refl)
call_some Save = (0, [], refl)
call_some (Back save) = (5, word save, refl)

-- an entry has some byte
entry_some : (entry : TableCall × Reply) (rest : List ℕ) → length rest < length (entry_bytes entry ++ rest)
entry_some entry rest =
    let some = call_some entry.0 in
    let own : length (call_bytes entry.0) ≡ suc (length some.1) = ap (λ (l : List ℕ). length l) some.2 in
    omega (arith, own, length-append (entry_bytes entry) rest, length-append (call_bytes entry.0) (reply_bytes entry.1))

-- the entry at the front, and those behind it
entry_read : (n : ℕ) (bytes : List ℕ) (call : TableCall) (reply : Reply) (more rest : List ℕ) → 0 < length bytes → call_at bytes ≡ (call, more) → reply_at more ≡ (reply, rest)
    → entries_within (suc n) bytes ≡ (call, reply) ∷ entries_within n rest
entry_read n [] call reply more rest some called replied = absurd (omega (arith, some))
entry_read n (kind ∷ bytes) call reply more rest some called replied =
    ap (λ (p : TableCall × List ℕ). let r = reply_at p.1 in (p.0, r.0) ∷ entries_within n r.1) called
    ∙ ap (λ (q : Reply × List ℕ). (call, q.0) ∷ entries_within n q.1) replied

-- entries are read as they were packed
entries_read : (n : ℕ) (entries : List (TableCall × Reply)) → All CanEnter entries → length (flat_map entry_bytes entries) ≤ n → entries_within n (flat_map entry_bytes entries) ≡ entries
entries_read zero [] able fits = refl
entries_read (suc n) [] able fits = refl
entries_read zero (entry ∷ entries) able fits = absurd (omega (arith, fits, entry_some entry (flat_map entry_bytes entries)))
entries_read (suc m) (entry ∷ entries) able fits =
    let can : CanEnter entry = All-head CanEnter entry entries able in
    let rest = flat_map entry_bytes entries in
    let longer = entry_some entry rest in
    entry_read m (entry_bytes entry ++ rest) entry.0 entry.1 (reply_bytes entry.1 ++ rest) rest (omega (arith, longer))
    (ap call_at (append_assoc (call_bytes entry.0) (reply_bytes entry.1) rest) ∙ call_read entry.0 (reply_bytes entry.1 ++ rest) can.0)
    (reply_read entry.1 rest can.1)
    ∙ ap (λ (es : List (TableCall × Reply)). entry ∷ es) (entries_read m entries (All-tail CanEnter entry entries able) (omega (arith, fits, longer)))

-- bytes of entries are packed, and the entries are theirs
pub packed_of : (entries : List (TableCall × Reply)) → All CanEnter entries → entries_in (flat_map entry_bytes entries) ≡ entries
packed_of entries able = entries_read (length (flat_map entry_bytes entries)) entries able (omega arith)

pub none_packed : ArePacked []
none_packed = record { whole = refl; able = All-nil CanEnter }

more_able : (bytes : List ℕ) (entry : TableCall × Reply) → ArePacked bytes → CanEnter entry → All CanEnter (entries_in bytes ++ entry ∷ [])
more_able bytes entry packed can = All-append CanEnter (entries_in bytes) (entry ∷ []) packed.able (All-cons CanEnter entry [] can (All-nil CanEnter))

more_bytes : (bytes : List ℕ) (entry : TableCall × Reply) → ArePacked bytes → bytes ++ entry_bytes entry ≡ flat_map entry_bytes (entries_in bytes ++ entry ∷ [])
more_bytes bytes entry packed = ap (λ (b : List ℕ). b ++ entry_bytes entry) packed.whole ∙ flat_map_more entry_bytes [] (entries_in bytes) entry

-- one more entry
pub more_entries : (bytes more : List ℕ) (entry : TableCall × Reply) → ArePacked bytes → CanEnter entry → more ≡ bytes ++ entry_bytes entry → entries_in more ≡ entries_in bytes ++ entry ∷ []
more_entries bytes more entry packed can is =
    let all = more_able bytes entry packed can in
    ap entries_in (is ∙ more_bytes bytes entry packed) ∙ packed_of (entries_in bytes ++ entry ∷ []) all

pub more_packed : (bytes more : List ℕ) (entry : TableCall × Reply) → ArePacked bytes → CanEnter entry → more ≡ bytes ++ entry_bytes entry → ArePacked more
more_packed bytes more entry packed can is =
    let entries = entries_in bytes ++ entry ∷ [] in
    let same : entries_in more ≡ entries = more_entries bytes more entry packed can is in
    record {
      whole = is ∙ more_bytes bytes entry packed ∙ ap (flat_map entry_bytes) (sym same);
      able = subst (λ (es : List (TableCall × Reply)). All CanEnter es) (sym same) (more_able bytes entry packed can);
    }

-- so many rows are read
pub count_rows : (n : ℕ) (bytes : List ℕ) → length (rows_at n bytes).0 ≡ n
count_rows zero bytes = refl
count_rows (suc n) bytes = ap suc (count_rows n (row_at bytes).1)

-- the first row, and those behind it
pub rows_some : (n : ℕ) (bytes : List ℕ) → 0 < n → (rows_at n bytes).0 ≡ (row_at bytes).0 ∷ (rows_at (n - 1) (row_at bytes).1).0
rows_some zero bytes some = absurd (omega (arith, some))
rows_some (suc n) bytes some =
    let less : n ≡ suc n - 1 = omega arith in
    ap (λ (m : ℕ). (row_at bytes).0 ∷ (rows_at m (row_at bytes).1).0) less

-- what is behind one row more
pub behind_more : (n row : ℕ) (bytes rest : List ℕ) → row < n → rest ≡ (row_at bytes).1 → (rows_at (n - (row + 1)) rest).1 ≡ (rows_at (n - row) bytes).1
behind_more n row bytes rest less is =
    let step : n - row ≡ suc (n - (row + 1)) = omega (arith, less) in
    ap (λ (b : List ℕ). (rows_at (n - (row + 1)) b).1) is ∙ sym (ap (λ (m : ℕ). (rows_at m bytes).1) step)

-- one row more is written
pub row_written : (old was now head : List ℕ) (rows : List Row) (i : ℕ) (row : Row) → i < length rows → row ≡ get_or rows i row
    → was ≡ old ++ (head ++ flat_map row_bytes (take i rows)) → now ≡ was ++ row_bytes row → now ≡ old ++ (head ++ flat_map row_bytes (take (i + 1) rows))
row_written old was now head rows i row less at before step =
    let more : take i rows ++ row ∷ [] ≡ take (i + 1) rows = ap (λ (r : Row). take i rows ++ r ∷ []) at ∙ sym (take_more rows i row less) in
    step ∙ ap (λ (b : List ℕ). b ++ row_bytes row) before ∙ append_assoc old (head ++ flat_map row_bytes (take i rows)) (row_bytes row)
    ∙ ap (λ (b : List ℕ). old ++ b) (append_assoc head (flat_map row_bytes (take i rows)) (row_bytes row))
    ∙ ap (λ (b : List ℕ). old ++ (head ++ b)) (flat_map_more row_bytes [] (take i rows) row ∙ ap (flat_map row_bytes) more)

pub row_can : (rows : List Row) (i : ℕ) (row : Row) → i < length rows → row ≡ get_or rows i row → All CanRow (take i rows) → CanRow row → All CanRow (take (i + 1) rows)
row_can rows i row less at before can =
    let more : take i rows ++ row ∷ [] ≡ take (i + 1) rows = ap (λ (r : Row). take i rows ++ r ∷ []) at ∙ sym (take_more rows i row less) in
    subst (λ (rs : List Row). All CanRow rs) more (All-append CanRow (take i rows) (row ∷ []) before (All-cons CanRow row [] can (All-nil CanRow)))

-- the three numbers of a full log are written
pub log_full_written : (old first second third : List ℕ) (l h n logger held needed : ℕ) → l ≡ logger → h ≡ held → n ≡ needed
    → first ≡ old ++ 12 ∷ word l → second ≡ first ++ word h → third ≡ second ++ word n → third ≡ old ++ reply_bytes (LogFull logger held needed)
log_full_written old first second third l h n logger held needed ls hs ns one two three =
    let head : List ℕ = 12 ∷ word logger in
    let all : third ≡ old ++ head ++ word held ++ word needed =
    three ∙ ap (λ (b : List ℕ). b ++ word n) (two ∙ ap (λ (b : List ℕ). b ++ word h) one) ∙ (λ i. (old ++ 12 ∷ word (ls i)) ++ word (hs i) ++ word (ns i)) in
    all ∙ append_assoc (old ++ head) (word held) (word needed) ∙ append_assoc old head (word held ++ word needed) ∙ ap (λ (b : List ℕ). old ++ b) (sym (append_assoc head (word held) (word needed)))

-- what stands at the front of packed bytes: an entry, and behind it packed bytes
pub record Front (bytes : List ℕ) : Type 0 where
  pub entry : TableCall × Reply
  pub rest : List ℕ
  pub can : CanEnter entry
  pub call : call_at bytes ≡ (entry.0, reply_bytes entry.1 ++ rest)
  pub reply : reply_at (reply_bytes entry.1 ++ rest) ≡ (entry.1, rest)
  pub packed : ArePacked rest
  pub all : entries_in bytes ≡ entry ∷ entries_in rest

pub front_of : (bytes : List ℕ) → ArePacked bytes → 0 < length bytes → Front bytes
front_of bytes packed some = go (entries_in bytes) refl
  where
    go : (es : List (TableCall × Reply)) → entries_in bytes ≡ es → Front bytes
    go [] is =
        let none : bytes ≡ [] = packed.whole ∙ ap (flat_map entry_bytes) is in
        let short : length bytes ≡ 0 = ap (λ (b : List ℕ). length b) none in
        absurd (omega (arith, some, short))
    go (first ∷ es) is =
        let able : All CanEnter (first ∷ es) = subst (λ (xs : List (TableCall × Reply)). All CanEnter xs) is packed.able in
        let behind : List ℕ = flat_map entry_bytes es in
        let whole : bytes ≡ entry_bytes first ++ behind = packed.whole ∙ ap (flat_map entry_bytes) is in
        let first_can : CanEnter first = All-head CanEnter first es able in
        let others : All CanEnter es = All-tail CanEnter first es able in
        let theirs : entries_in behind ≡ es = packed_of es others in
        record {
          entry = first;
          rest = behind;
          can = first_can;
          call = ap call_at (whole ∙ append_assoc (call_bytes first.0) (reply_bytes first.1) behind) ∙ call_read first.0 (reply_bytes first.1 ++ behind) first_can.0;
          reply = reply_read first.1 behind first_can.1;
          packed = record { whole = ap (flat_map entry_bytes) (sym theirs); able = subst (λ (xs : List (TableCall × Reply)). All CanEnter xs) (sym theirs) others };
          all = is ∙ ap (λ (xs : List (TableCall × Reply)). first ∷ xs) (sym theirs);
        }

-- What is behind the call begins with the reply, wherever the call went.
pub reply_behind : (bytes more : List ℕ) (front : Front bytes) → more ≡ (call_at bytes).1 → reply_at more ≡ (front.entry.1, front.rest)
reply_behind bytes more front is =
    let begins : more ≡ reply_bytes front.entry.1 ++ front.rest = is ∙ ap (λ (p : TableCall × List ℕ). p.1) front.call in
    ap reply_at begins ∙ front.reply

pub can_behind : (bytes more : List ℕ) (front : Front bytes) → more ≡ (call_at bytes).1 → CanReply (reply_at more).0
can_behind bytes more front is =
    subst (λ (reply : Reply). CanReply reply) (sym (ap (λ (p : Reply × List ℕ). p.0) (reply_behind bytes more front is))) front.can.1

-- what is left behind the reply
pub rest_behind : (bytes more behind : List ℕ) (front : Front bytes) → more ≡ (call_at bytes).1 → behind ≡ (reply_at more).1 → front.rest ≡ behind
rest_behind bytes more behind front is read = sym (read ∙ ap (λ (p : Reply × List ℕ). p.1) (reply_behind bytes more front is))

pub packed_behind : (bytes more behind : List ℕ) (front : Front bytes) → more ≡ (call_at bytes).1 → behind ≡ (reply_at more).1 → ArePacked behind
packed_behind bytes more behind front is read = subst (λ (b : List ℕ). ArePacked b) (rest_behind bytes more behind front is read) front.packed

-- so the entries are the first one and those in what is left
pub entries_behind : (bytes more behind : List ℕ) (front : Front bytes) (reply : Reply) → more ≡ (call_at bytes).1 → reply ≡ (reply_at more).0 → behind ≡ (reply_at more).1
    → entries_in bytes ≡ (front.entry.0, reply) ∷ entries_in behind
entries_behind bytes more behind front reply is told read =
    let replied : front.entry.1 ≡ reply = sym (told ∙ ap (λ (p : Reply × List ℕ). p.0) (reply_behind bytes more front is)) in
    front.all ∙ (λ i. (front.entry.0, replied i) ∷ entries_in (rest_behind bytes more behind front is read i))
