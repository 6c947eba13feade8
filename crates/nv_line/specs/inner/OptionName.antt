-- The long names of the options, which are also clap's ids: what no public contract reaches.
use Rattle.std.specs.Prelude.{◌≡◌, ◌≤◌, true, IfSome}
use Rattle.nv_line.specs.Word.{nsid_limit}
use Rattle.nv_line.specs.declared.option.NumberOption.{NumberOption}

-- the default is in the option's range
pub record IsSound (o : NumberOption) : Type 0 where
  pub default : IfSome o.default (λ n. (o.least ≤ n) × (n ≤ o.most))
  pub path : o.takes_path ≡ true → (o.least ≡ 0) × (nsid_limit ≤ o.most)
