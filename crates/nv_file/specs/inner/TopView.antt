-- What the top table holds, before the tables in it are read.
use Rattle.std.specs.Prelude.{ℕ, List, string_bytes}
use Rattle.toml.specs.Data.{Members}
use Rattle.nv_file.specs.declared.key.Key.TheVariants as key
use Rattle.nv_file.specs.declared.top.Top.{Top as CodeTop}
use Rattle.nv_file.specs.File.{nn_of}
use Rattle.nv_file.specs.KeyChecks.{number_at, tables_at, text_at}
use Rattle.nv_file.specs.inner.SectionView.{tables_view}

-- the top table, with the members of the tables in it
pub record Top : Type 0 where
  pub version : ℕ
  pub nn : ℕ
  pub tnvmcap : ℕ
  pub mc : ℕ
  pub subnqn : List ℕ
  pub formats : List Members
  pub controllers : List Members
  pub namespaces : List Members

-- the value of a top table in the code
abbrev pub top_view : CodeTop → Top
top_view t = record {
  version = t.version;
  nn = t.nn;
  tnvmcap = t.tnvmcap;
  mc = t.mc;
  subnqn = string_bytes t.subnqn;
  formats = tables_view t.formats.items;
  controllers = tables_view t.controllers.items;
  namespaces = tables_view t.namespaces.items;
}

-- the top table that these members hold
abbrev pub top_value : Members → Top
top_value m = record {
  version = number_at key.Version 0 m;
  nn = nn_of m;
  tnvmcap = number_at key.Tnvmcap 0 m;
  mc = number_at key.Mc 0 m;
  subnqn = text_at key.Subnqn m;
  formats = tables_at key.Format m;
  controllers = tables_at key.Controller m;
  namespaces = tables_at key.Namespace m;
}
