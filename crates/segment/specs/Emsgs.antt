-- The fields of emsg boxes, as their bytes have them.
--   Shut                      a string, and what stands behind the 0 byte that closes it
--   shut_at o bs              the string in front of a 0 byte, where it was found
--   shut bs                   the string at the front of bs; none where no 0 byte closes it
--   closed c                  what a string that was read says
--   Texts                     a scheme and a value, and what stands behind them
--   valued, schemed           the value behind a scheme, and both, where each is closed
--   texts bs                  the two strings at the front of bs; none where one is not closed
--   names n                   what two strings that were read say
--   Emsg                      version, stream, timescale, time, duration and id, and the length of the message
--   zero_fields, one_fields   the numbers of a version, once the strings are read
--   emsg_zero bs              version 0: scheme, value, timescale u32, time u32, duration u32, id u32, message; none where these do not fit
--   emsg_one bs               version 1: timescale u32, time u64, duration u32, id u32, scheme, value, message; none likewise
--   emsg_of v bs              the fields of a version
--   fields r                  what a box that was read says
use Rattle.std.specs.Prelude.{ℕ, ◌+◌, ◌-◌, cond, List, length, take, drop, Some, None, Option, ◌==◌, nat_le}
use Rattle.std.specs.List.{position_from}
use Rattle.event.specs.BigEndian.{num32, num64}
use Rattle.catalogue.specs.Pairs.{Stream, stream}
use Rattle.segment.specs.declared.segments.emsgs.Closed.{Closed}
use Rattle.segment.specs.declared.segments.emsgs.EmsgFields.{EmsgFields}
use Rattle.segment.specs.declared.segments.emsgs.Names.{Names}
use Rattle.segment.specs.declared.timings.Version.{Version}
use Rattle.segment.specs.declared.timings.Version.TheVariants.{Zero, One}

pub record Shut : Type 0 where
  pub text : List ℕ
  pub rest : List ℕ

abbrev pub shut_at : Option ℕ → List ℕ → Option Shut
shut_at None bs = None
shut_at (Some n) bs = Some (record { text = take n bs; rest = drop (n + 1) bs })

abbrev pub shut : List ℕ → Option Shut
shut bs = shut_at (position_from (λ b. b == 0) 0 bs) bs

abbrev pub closed : Closed → Shut
closed c = record { text = c.text.now; rest = c.rest.now }

pub record Texts : Type 0 where
  pub named : Stream
  pub rest : List ℕ

abbrev pub valued : Shut → Option Shut → Option Texts
valued s None = None
valued s (Some v) = Some (record { named = record { scheme = s.text; value = v.text }; rest = v.rest })

abbrev pub schemed : Option Shut → Option Texts
schemed None = None
schemed (Some s) = valued s (shut s.rest)

abbrev pub texts : List ℕ → Option Texts
texts bs = schemed (shut bs)

abbrev pub names : Names → Texts
names n = record { named = stream n.pair; rest = n.rest.now }

pub record Emsg : Type 0 where
  pub version : Version
  pub named : Stream
  pub timescale : ℕ
  pub time : ℕ
  pub duration : ℕ
  pub id : ℕ
  pub message : ℕ

abbrev pub zero_fields : Option Texts → Option Emsg
zero_fields None = None
zero_fields (Some t) =
    cond (nat_le 16 (length t.rest))
    (Some (record {
      version = Zero;
      named = t.named;
      timescale = num32 t.rest 0;
      time = num32 t.rest 4;
      duration = num32 t.rest 8;
      id = num32 t.rest 12;
      message = length t.rest - 16;
    }))
    None

abbrev pub emsg_zero : List ℕ → Option Emsg
emsg_zero bs = zero_fields (texts bs)

abbrev pub one_fields : List ℕ → Option Texts → Option Emsg
one_fields bs None = None
one_fields bs (Some t) = Some (record {
  version = One;
  named = t.named;
  timescale = num32 bs 0;
  time = num64 bs 4;
  duration = num32 bs 12;
  id = num32 bs 16;
  message = length t.rest;
})

abbrev pub emsg_one : List ℕ → Option Emsg
emsg_one bs = cond (nat_le 20 (length bs)) (one_fields bs (texts (drop 20 bs))) None

abbrev pub emsg_of : Version → List ℕ → Option Emsg
emsg_of Zero bs = emsg_zero bs
emsg_of One bs = emsg_one bs

abbrev pub fields : EmsgFields → Emsg
fields r = record {
  version = r.version;
  named = stream r.pair;
  timescale = r.timescale;
  time = r.time;
  duration = r.duration;
  id = r.id;
  message = length r.message.now;
}
