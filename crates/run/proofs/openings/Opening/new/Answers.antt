use Rattle.std.proofs.Common.{refl}
use Rattle.run.proofs.Opened.{opens_listed, opens_refused}
use Rattle.run.proofs.openings.Opening.new.Goals as goal

pub returns-in-Err-catalogue : goal.returns-in-Err-catalogue
returns-in-Err-catalogue c =
    let w = c.in-Ok.ensures in
    let b = c.in-Err-catalogue.ensures in
    opens_refused c.args.media.now c.in-Ok.sheet c.catalogue.new.self
    (record { short = w.0; over = w.1; place = w.2; count = w.3 }) (record { over = b.over; place = b.place; count = b.count })
    _ c.records_read.result c.in-Err-catalogue.refusal c.refused-in-Err-catalogue.ensures c.records_read.ensures b.lists

pub returns-in-Ok-catalogue : goal.returns-in-Ok-catalogue
returns-in-Ok-catalogue c =
    let w = c.in-Ok.ensures in
    let b = c.in-Ok-catalogue.ensures in
    opens_listed c.args.media.now c.in-Ok.sheet c.catalogue.new.self
    (record { short = w.0; over = w.1; place = w.2; count = w.3 }) (record { over = b.over; place = b.place; count = b.count })
    _ (record { media = c.args.media; sheet = c.catalogue.new.self; catalogue = c.in-Ok-catalogue.catalogue }) c.records_read-in-Ok-catalogue.result refl refl refl b.lists
