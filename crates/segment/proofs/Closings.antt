-- The fields of version 1, once the numbers in front of its strings are read.
use Rattle.std.proofs.Common.{◌≡◌, ℕ, ◌≤◌, List, length, drop, Some, None, sym, ap, ◌∙◌}
use Rattle.std.proofs.lemmas.Bool.{cond-true, le-leb}
use Rattle.event.specs.BigEndian.{num32, num64}
use Rattle.segment.specs.Emsgs.{Texts, emsg_one, one_fields, texts}
use Rattle.segment.specs.declared.timings.Version.TheVariants.{One}

pub one_from : (bs r : List ℕ) (t p d i : ℕ) (x : Texts) → 20 ≤ length bs → t ≡ num32 bs 0 → p ≡ num64 bs 4 → d ≡ num32 bs 12 → i ≡ num32 bs 16 → r ≡ drop 20 bs → Some x ≡ texts r → Some (record { version = One; named = x.named; timescale = t; time = p; duration = d; id = i; message = length x.rest }) ≡ emsg_one bs
one_from bs r t p d i x h et ep ed ei er e =
    (λ j. Some (record { version = One; named = x.named; timescale = et j; time = ep j; duration = ed j; id = ei j; message = length x.rest })) ∙
    ap (one_fields bs) (e ∙ ap texts er) ∙
    sym (cond-true _ (one_fields bs (texts (drop 20 bs))) None (le-leb 20 (length bs) h))
