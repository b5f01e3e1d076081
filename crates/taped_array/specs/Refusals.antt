-- What is tested of a command before the array is asked. The first test that fails is told by its status.
use Rattle.std.specs.Prelude.{ℕ, ℤ, ◌≡◌, ◌+◌, ◌≤◌, ◌<◌, None}
use Rattle.mars_base.specs.Check.{Check, pass, test, both}
use Rattle.array_shape.specs.Places.{data_len}
use Rattle.eaw_face.specs.State.{listed, range_at}
use Rattle.eaw_face.specs.StoreView.{IsLive, log_len}
use Rattle.taped_array.specs.declared.open_array.OpenArray.{OpenArray}
use Rattle.taped_array.specs.Shown.{store_in}
use Rattle.taped_array.specs.Status.{unknown, bad_range, bad_part, in_use}

-- a test of an open array
abbrev pub Test : Type 1
Test = OpenArray → Check ℤ

-- nothing is tested
abbrev pub always : Test
always array = pass

-- the range lies within the data
abbrev pub is_inside : (at len : ℕ) → Test
is_inside at len array = test (at + len ≤ data_len (store_in array).shape) bad_range

-- so it does, and it is not empty
abbrev pub is_write : (at len : ℕ) → Test
is_write at len array = both (test (0 < len) bad_range) (is_inside at len array)

-- it is a number of the array
abbrev pub is_number : ℕ → Test
is_number t array = test (t < (store_in array).shape.numbers) unknown

-- so it is, and has no log
abbrev pub is_free : ℕ → Test
is_free t array = both (is_number t array) (test ((store_in array).ranges t ≡ None) in_use)

-- the number is free, and the range is that of a write
abbrev pub is_own_write : (t at len : ℕ) → Test
is_own_write t at len array = both (is_free t array) (is_write at len array)

-- the log has at least so many parts: 0 if there is none
abbrev pub has_parts : (t count : ℕ) → Test
has_parts t count array = both (is_number t array) (test (count ≤ log_len (store_in array) t) bad_part)

-- the number has a log with a part at this position
abbrev pub has_part : (t pos : ℕ) → Test
has_part t pos array = both (test (IsLive (store_in array) t) unknown) (test (pos < log_len (store_in array) t) bad_part)

-- so it has, and the range lies within that part
abbrev pub is_within : (t pos at len : ℕ) → Test
is_within t pos at len array =
    both (has_part t pos array) (test (at + len ≤ (range_at (listed ((store_in array).ranges t)) pos).1) bad_range)
