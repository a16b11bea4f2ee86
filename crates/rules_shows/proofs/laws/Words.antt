-- Computed examples: numbers and lines as the program `show` prints them.
use Rattle.std.specs.Prelude.{◌≡◌, refl}
use Rattle.rules_walks.specs.Choose.{choose}
use Rattle.rules_shows.specs.Words.{codes, decimal_to, decimal, signed}
use Rattle.rules_shows.specs.Shown.{sort_word, role_word, frames_line}

pub nothing : decimal 0 ≡ codes "0"
unfolding decimal decimal_to choose
nothing = refl

pub a_hundred : decimal 100 ≡ codes "100"
unfolding decimal decimal_to choose
a_hundred = refl

pub the_largest : signed 2147483647 ≡ codes "2147483647"
unfolding signed decimal decimal_to choose
the_largest = refl

pub the_least : signed 2147483648 ≡ codes "-2147483648"
unfolding signed decimal decimal_to choose
the_least = refl

pub minus_one : signed 4294967295 ≡ codes "-1"
unfolding signed decimal decimal_to choose
minus_one = refl

pub first_line : frames_line 5 ≡ codes "frames 5\n"
unfolding frames_line decimal decimal_to choose
first_line = refl

pub a_sink : sort_word 4 ≡ codes "sink"
unfolding sort_word choose
a_sink = refl

pub an_internal : role_word 2 ≡ codes "  internal "
unfolding role_word choose
an_internal = refl
