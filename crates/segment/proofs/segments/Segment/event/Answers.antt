use Rattle.std.proofs.Common.{◌≡◌, Some, sym, ap, ◌∙◌, arith}
use Rattle.std.specs.Option.{option_map}
use Rattle.segment.specs.Emsgs.{emsg_of, fields}
use Rattle.segment.specs.Lengths.{emsg_fits}
use Rattle.segment.proofs.segments.Segment.event.Goals as goal
use Rattle.segment.proofs.segments.Segment.event.Goals.{In_ok-fields}

read : (c : In_ok-fields) → Some (fields c.in_ok-fields.fields) ≡ emsg_of c.args.version c.args.bytes.now
read c = ap (option_map fields) (sym c.in_ok-fields.ensures.ok_part) ∙ c.read.ensures

pub overflow_cast-length : goal.overflow_cast-length
overflow_cast-length c =
    let fits = emsg_fits c.args.version c.args.bytes.now (fields c.in_ok-fields.fields) (read (goal.at.overflow_cast-length c).In_ok-fields) in
    omega arith

pub overflow_sub-message : goal.overflow_sub-message
overflow_sub-message c =
    let fits = emsg_fits c.args.version c.args.bytes.now (fields c.in_ok-fields.fields) (read (goal.at.overflow_sub-message c).In_ok-fields) in
    omega arith
