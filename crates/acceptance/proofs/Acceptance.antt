-- The acceptance paper is proved.
use Rattle.acceptance.specs.Acceptance.{Acceptance}
use Rattle.acceptance.proofs.FaultNumbers.{no_role_is, values-held, free_bits}
use Rattle.acceptance.proofs.Each.{each_form, each_pair}
use Rattle.acceptance.proofs.Decoded.{decoded_so}
use Rattle.acceptance.proofs.Condition1.{conversion_call, measure_call, decoding_call, reader_call, finder_call}
use Rattle.acceptance.proofs.Condition2.{conversion, measure, room_suffices, read}
use Rattle.acceptance.proofs.Condition3.{good-characters, condition_3, middle_alone}
use Rattle.acceptance.proofs.FaultTable.{fault_table}
use Rattle.acceptance.proofs.PairTable.{pair_table}
use Rattle.acceptance.proofs.Places.{item-found, longest_are}
use Rattle.acceptance.proofs.Settled.{settled_pair, settled_form}
use Rattle.acceptance.proofs.Dummies.{no_dummy_converter, no_dummy_reader, not_empty_reading}

pub acceptance : Acceptance
acceptance =
    record {
      conversions = each_pair _ (λ F G most p k. conversion_call F G most p k);
      measures = each_pair _ (λ F G most p k. measure_call F G most p k);
      decodings = each_form _ (λ F k. decoding_call F);
      readers = each_form _ (λ F k. reader_call F k);
      finders = each_form _ (λ F k. finder_call F k);
      reading = each_form _ (λ F k. read F k);
      decoding = each_form _ (λ F k. decoded_so F);
      writing = each_pair _ (λ F G most p k. conversion F G most p k);
      measuring = each_pair _ (λ F G most p k. measure F G most p k);
      room = room_suffices;
      good-characters = each_form _ (λ F k. good-characters F);
      no_neighbour_lost = each_form _ (λ F k. condition_3 F);
      middle_as_alone = each_form _ (λ F k. middle_alone F);
      no_role = no_role_is;
      held = values-held;
      byte_forms = free_bits;
      fault_table = fault_table;
      pair_table = pair_table;
      found = each_form _ (λ F k. item-found F k);
      longest = longest_are;
      pairs_settled = each_pair _ (λ F G most p k. settled_pair F G);
      forms_settled = each_form _ (λ F k. settled_form F);
      no_dummy_converter = no_dummy_converter;
      no_dummy_reader = no_dummy_reader;
      not_empty = each_form _ (λ F k. not_empty_reading F k);
    }
