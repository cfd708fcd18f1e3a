-- Form 1 is one that the laws and the code hold for.
use lib.Dec.{lit<, lit≤}
use Rattle.stored_games.specs.Forms.{form1, Usable}

pub form1_usable : Usable form1
form1_usable =
    record {
      small_number = lit< tt;
      few_fields = lit≤ tt;
      small_set = lit< tt;
      bits_enough = lit≤ tt;
      signals_kept = lit≤ tt;
    }
