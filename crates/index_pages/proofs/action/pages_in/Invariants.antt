use Rattle.std.proofs.Common.{◌≡◌, ◌++◌, length, drop}
use Rattle.index_pages.specs.Parts.{pages_named}
use Rattle.index_pages.proofs.action.pages_in.Given as goal

abbrev pub invariant-loop-part : goal.invariant-loop-part
invariant-loop-part l = record {
  size : length l.pages.items ≡ l.part-index;
  whole : l.pages.items ++ pages_named (drop l.part-index l.parts) ≡ pages_named l.parts;
}
