use Rattle.mars_core.proofs.Touching.{get_at, scan_masks, put_at, del_at}
use Rattle.mars_core.proofs.masks.Masks.touched_by.Goals as goal

pub returns-in-Get : goal.returns-in-Get
returns-in-Get c = rw (c.in-Get.is, c.reading.ensures, c.key_mask.ensures) (λ names is. get_at names c.in-Get.table c.args.table c.in-Get.key is)

pub returns-in-Scan : goal.returns-in-Scan
returns-in-Scan c = rw (c.in-Scan.is, c.reading-in-Scan.ensures) (λ names is. scan_masks names c.in-Scan.table c.in-Scan.low c.in-Scan.high)

pub returns-in-Put : goal.returns-in-Put
returns-in-Put c = rw (c.in-Put.is, c.writing.ensures, c.key_mask-in-Put.ensures) (λ names is. put_at names c.in-Put.table c.args.table c.in-Put.key c.in-Put.value is)

pub returns-in-Del : goal.returns-in-Del
returns-in-Del c = rw (c.in-Del.is, c.writing-in-Del.ensures, c.key_mask-in-Del.ensures) (λ names is. del_at names c.in-Del.table c.args.table c.in-Del.key is)
