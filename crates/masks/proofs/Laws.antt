-- The laws of masks as finite sets. Assumes nothing.
use Rattle.masks.specs.Masks.{Masks}
use Rattle.masks.proofs.Counts.{one_has, ones-tally, ones-within}
use Rattle.masks.proofs.Ends.{lowest-has, lowest-none, past_all, past-has, stretch-ends, stretch-has}
use Rattle.masks.proofs.Masks.{has-and, has-below, has-full, has-or, has_same, has-single, has-without, has-zero, within-from, within_has}

pub masks : Masks
masks = record {
  meet = has-and;
  join = has-or;
  removal = has-without;
  single = has-single;
  none = has-zero;
  full = has-full;
  bounded = has-below;
  same = has_same;
  subset = within_has;
  subset_from = within-from;
  count = ones-tally;
  fewer = ones-within;
  one = one_has;
  least = lowest-none;
  least_in = lowest-has;
  greatest = past_all;
  greatest_in = past-has;
  stretched = stretch-has;
  between = stretch-ends;
}
