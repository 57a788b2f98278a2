use Rattle.mag_text.proofs.LawfulDrafts.{mag_in-lawful, mag_in-read, body-lawful}
use Rattle.mag_text.proofs.reading.read_mag.Goals as goal

pub into_body-requires : goal.into_body-requires
into_body-requires c =
    let raw = c.args.tech.now in
    let read = mag_in-read raw c.args.bytes.now c.new-draft.result c.read_text.new.reader c.new-draft.ensures c.in_ok-read_text.ensures.read in
    (mag_in-lawful raw c.args.bytes.now c.read_text.new.reader read).drawn

pub returns-in-Ok-clause-read : goal.returns-in-Ok-clause-read
returns-in-Ok-clause-read c =
    let raw = c.args.tech.now in
    let draft = c.read_text.new.reader in
    let read = mag_in-read raw c.args.bytes.now c.new-draft.result draft c.new-draft.ensures c.in_ok-read_text.ensures.read in
    let all = c.in-Ok.ensures.body in
    record {
      draft = draft;
      reads = read;
      body_is = all;
      lawful = body-lawful raw draft c.in-Ok.body (mag_in-lawful raw c.args.bytes.now draft read) all c.in-Ok.ensures.kinds c.in-Ok.ensures.planes;
    }
