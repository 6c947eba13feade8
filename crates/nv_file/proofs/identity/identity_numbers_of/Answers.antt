use Rattle.nv_file.proofs.identity.identity_numbers_of.Goals as goal

pub returns-clause-sound : goal.returns-clause-sound
returns-clause-sound c = record {
  vid = c.in_ok-vid.ensures.range.1;
  ssvid = c.in_ok-ssvid.ensures.range.1;
  rab = c.in_ok-rab.ensures.range.1;
  ieee = c.in_ok-ieee.ensures.range.1;
  mdts = c.in_ok-mdts.ensures.range;
  elpe = c.in_ok-elpe.ensures.range.1;
  wctemp = c.in_ok-wctemp.ensures.range.1;
  cctemp = c.in_ok-cctemp.ensures.range.1;
  vwc = c.in_ok-vwc.ensures.range.1;
}
