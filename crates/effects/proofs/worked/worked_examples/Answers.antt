use Rattle.std.proofs.Common.{refl}
use Rattle.base64_codec.specs.Alphabet.{alphabet, place, value}
use Rattle.base64_codec.specs.Texts.{accepted, decoded}
use Rattle.effects.proofs.worked.worked_examples.Goals as goal

pub returns : goal.returns
unfolding accepted decoded alphabet place value
returns c = record {
  count = refl;
  hold = record {
    delta_adds_to_arrival = refl;
    presentation_time_is_rounded_down = refl;
    each_fraction_by_itself = refl;
    largest_duration_is_unknown = (refl, refl);
    seek_onto_the_end = (refl, refl);
    sheet_time_at_the_offset = (refl, refl);
    group_without_places = refl;
    unused_bits_are_zero = (refl, refl, refl);
  };
}
