use Rattle.std.proofs.Common.{◌≡◌, ◌∷◌, [], arith, sym, ap, ◌∙◌, subst}
use Rattle.history.specs.declared.call.Call.{Call}
use Rattle.history.specs.declared.call.Call.TheVariants.{Table}
use Rattle.history.specs.declared.call.TableCall.{TableCall}
use Rattle.history.specs.declared.call.TableCall.TheVariants.{Get}
use Rattle.script_text.specs.Line.{IsCallText, IsLineOf}
use Rattle.script_text.proofs.Fields.{behind}
use Rattle.script_text.proofs.OneLine.{same_line}
use Rattle.script_text.proofs.joint_line.read_reader_line.Goals as goal

calls_are : (one other : TableCall) → Table one ≡ Table other → one ≡ other
calls_are one other e = cc

pub returns-in_err-rest : goal.returns-in_err-rest
returns-in_err-rest c = rw c.from_residual.ensures (λ t is. c.in_err-rest.ensures is.0 is.2)

pub returns-in_err-reader : goal.returns-in_err-reader
returns-in_err-reader c = rw c.from_residual-in_err-reader.ensures (λ t is.
    let same = behind (114 ∷ []) c.args.bytes.now is.0 c.in_ok-rest.rest.now is.2 c.in_ok-rest.ensures in
    c.in_err-reader.ensures (t.0, Table (Get t.1.table t.1.key)) (subst (IsLineOf (IsCallText (Table (Get t.1.table t.1.key))) c.args.readers t.0) same is.1))

pub returns-in_default : goal.returns-in_default
returns-in_default c = λ t is.
    let same = behind (114 ∷ []) c.args.bytes.now is.0 c.in_ok-rest.rest.now is.2 c.in_ok-rest.ensures in
    let asked = subst (IsLineOf (IsCallText (Table (Get t.1.table t.1.key))) c.args.readers t.0) same is.1 in
    c.in_default.not-Table (Get t.1.table t.1.key) (same_line c.args.readers _ t.0 _ (Table (Get t.1.table t.1.key)) c.in_ok-rest.rest.now (omega (arith, c.ranges.readers.fits)) c.in_ok-reader.ensures asked).1

pub returns-in_default-asked : goal.returns-in_default-asked
returns-in_default-asked c = λ t is.
    let same = behind (114 ∷ []) c.args.bytes.now is.0 c.in_ok-rest.rest.now is.2 c.in_ok-rest.ensures in
    let asked = subst (IsLineOf (IsCallText (Table (Get t.1.table t.1.key))) c.args.readers t.0) same is.1 in
    let one = (same_line c.args.readers _ t.0 _ (Table (Get t.1.table t.1.key)) c.in_ok-rest.rest.now (omega (arith, c.ranges.readers.fits)) c.in_ok-reader.ensures asked).1 in
    c.in_default-asked.not-Get t.1.table t.1.key (calls_are _ (Get t.1.table t.1.key) (sym c.in-Table.is ∙ one))

pub returns-in-Get : goal.returns-in-Get
returns-in-Get c = (
  c.in_ok-rest.rest.now,
  subst (λ (call : Call). IsLineOf (IsCallText call) c.args.readers c.in_ok-reader.reader c.in_ok-rest.rest.now) (c.in-Table.is ∙ ap Table c.in-Get.is) c.in_ok-reader.ensures,
  c.in_ok-rest.ensures,
)
