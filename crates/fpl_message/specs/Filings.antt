-- What a filing is: the bytes as they were filed, and the edition of the rules by which they are
-- read.
use Rattle.std.specs.Prelude.{ℕ, List}
use Rattle.fpl_message.specs.declared.edition.Edition.{Edition}

pub record FilingView : Type 0 where
  pub edition : Edition
  pub bytes : List ℕ
