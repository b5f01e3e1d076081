-- Bytes that are the text of no call.
use Rattle.std.proofs.Common.{◌≡◌, ℕ, ◌^◌, ◌<◌, Bool, true, false, List, [], ◌∷◌, ◌++◌, length, get_or, Option, Some, None, refl, sym, subst, eqb-true, arith}
use Rattle.std.specs.Prelude.{codes, nat_eq, MatchBool}
use Rattle.std.proofs.lemmas.Bool.{eqb-false}
use Rattle.std.specs.Fmt.{decimal}
use Rattle.record_slots.specs.Text.{IsValue}
use Rattle.history.specs.declared.call.Call.{Call}
use Rattle.history.specs.declared.call.Call.TheVariants.{Begin, Table, Control}
use Rattle.history.specs.declared.call.TableCall.TheVariants.{Get, Put, Del, Scan, Save, Back}
use Rattle.history.specs.declared.call.Control as history
use Rattle.script_text.specs.Line.{IsCallText, IsPassedOver, control_text}
use Rattle.script_text.specs.Named.{IsAsking}

-- bytes are passed over exactly if the first is a #
pub passed_or_not : (bytes : List ℕ) → 0 < length bytes → MatchBool (nat_eq (get_or bytes 0 0) 35) (IsPassedOver bytes) (IsPassedOver bytes → ⊥)
passed_or_not [] some = absurd (omega arith)
passed_or_not (byte ∷ bytes) some = tested (nat_eq byte 35) refl
  where
    tested : (b : Bool) → nat_eq byte 35 ≡ b → MatchBool b (byte ≡ 35) (byte ≡ 35 → ⊥)
    tested true is = eqb-true byte 35 is
    tested false is = eqb-false byte 35 is

-- bytes that no reader of a verb without a table reads
pub record IsUnread (bytes : List ℕ) : Type 0 where
  pub begin : bytes ≡ codes "begin" → ⊥
  pub save : bytes ≡ codes "save" → ⊥
  pub control : (control : history.Control) → bytes ≡ control_text control → ⊥
  pub back : (save : ℕ) → save < 2 ^ 32 → bytes ≡ codes "back " ++ decimal save → ⊥

-- and of a verb with one
pub record IsUnreadOf (bytes : List ℕ) : Type 0 where
  pub get : (key : ℕ) → key < 2 ^ 64 → bytes ≡ codes "get " ++ decimal key → ⊥
  pub put : (p : ℕ × List ℕ) → (p.0 < 2 ^ 64) × IsValue p.1 → bytes ≡ codes "put " ++ (decimal p.0 ++ 32 ∷ p.1) → ⊥
  pub del : (key : ℕ) → key < 2 ^ 64 → bytes ≡ codes "del " ++ decimal key → ⊥
  pub scan : (p : ℕ × ℕ) → (p.0 < 2 ^ 64) × (p.1 < 2 ^ 64) → bytes ≡ codes "scan " ++ (decimal p.0 ++ 32 ∷ decimal p.1) → ⊥

none_some : {X : Type 0} (name : List ℕ) → (let n : Option (List ℕ) = None in n ≡ Some name) → X
none_some name e = absurd (cc)

some_none : {X : Type 0} (name : List ℕ) → (let n : Option (List ℕ) = None in Some name ≡ n) → X
some_none name e = absurd (cc)

-- such bytes are the words of no such call
pub no_plain : (bytes : List ℕ) → IsUnread bytes → (call : Call) → IsAsking None call bytes → ⊥
no_plain bytes none Begin is = none.begin is.1
no_plain bytes none (Table (Get name key)) is = some_none name is.0
no_plain bytes none (Table (Put name key value)) is = some_none name is.0
no_plain bytes none (Table (Del name key)) is = some_none name is.0
no_plain bytes none (Table (Scan name low high)) is = some_none name is.0
no_plain bytes none (Table Save) is = none.save is.1
no_plain bytes none (Table (Back save)) is = none.back save is.1.0 is.1.1
no_plain bytes none (Control control) is = none.control control is.1

pub no_call_of : (bytes : List ℕ) → IsUnreadOf bytes → (table : List ℕ) (call : Call) → IsAsking (Some table) call bytes → ⊥
no_call_of bytes none table (Table (Get name key)) is = none.get key is.1.0 is.1.1
no_call_of bytes none table (Table (Put name key value)) is = none.put (key, value) (is.1.0, is.1.1) is.1.2
no_call_of bytes none table (Table (Del name key)) is = none.del key is.1.0 is.1.1
no_call_of bytes none table (Table (Scan name low high)) is = none.scan (low, high) (is.1.0, is.1.1) is.1.2
no_call_of bytes none table (Table Save) is = none_some table is.0
no_call_of bytes none table (Table (Back save)) is = none_some table is.0
no_call_of bytes none table Begin is = none_some table is.0
no_call_of bytes none table (Control control) is = none_some table is.0

-- a text that equals another
pub text_behind : (call : Call) (rest text : List ℕ) → rest ≡ text → IsCallText call text → IsCallText call rest
text_behind call rest text same is = subst (IsCallText call) (sym same) is
