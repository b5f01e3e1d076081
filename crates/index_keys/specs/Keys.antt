-- What keys indexes have, and how they gain and lose one.
use Rattle.std.specs.Prelude.{ℕ, suc, ◌≡◌, ◌≤◌, ◌+◌, Option, Some, None}
use Rattle.std.specs.Map.{update}
use Rattle.history.specs.declared.key.Key.{Key}
use Rattle.history.specs.Key.{is_same_key}

-- The indexes of all tables, which are told apart by T: the slot of each key, if they have it, and the slot that a further key gets; how many slots
-- and how many pages are in use, and the page that is given out next; and how many levels of inner pages the index of each table has.
pub record Keys (T : Type 0) : Type 0 where
  pub slot_of : Key → Option ℕ
  pub due : ℕ
  pub used_slots : ℕ
  pub used_pages : ℕ
  pub next_page : ℕ
  pub levels : T → ℕ

module _ {T : Type 0} where
  -- one more key, with the slot that was due
  pub record GainsKey (key : Key) (old new : Keys T) : Type 0 where
    pub slot_of : new.slot_of ≡ update is_same_key old.slot_of key (Some old.due)
    pub slots : new.used_slots ≡ suc old.used_slots

  -- the same keys, and the same slot is due
  pub record KeepsKeys (old new : Keys T) : Type 0 where
    pub slot_of : new.slot_of ≡ old.slot_of
    pub slots : new.used_slots ≡ old.used_slots
    pub due : new.due ≡ old.due

  -- at most nine more pages are given out, no page in use is given back, and no level is lost
  pub record TakesPages (old new : Keys T) : Type 0 where
    pub later : old.next_page ≤ new.next_page
    pub few : new.next_page ≤ old.next_page + 9
    pub used : old.used_pages ≤ new.used_pages
    pub levels : (table : T) → old.levels table ≤ new.levels table

  -- One key fewer: its slot is the one that is due now, and in use no more, and at most one page is given back. Nothing more is given out, and
  -- no level is lost.
  pub record LosesKey (key : Key) (old new : Keys T) : Type 0 where
    pub slot_of : new.slot_of ≡ update is_same_key old.slot_of key None
    pub due : old.slot_of key ≡ Some new.due
    pub slots : old.used_slots ≡ suc new.used_slots
    pub fewer : new.used_pages ≤ old.used_pages
    pub one_page : old.used_pages ≤ suc new.used_pages
    pub next_page : new.next_page ≡ old.next_page
    pub levels : new.levels ≡ old.levels
