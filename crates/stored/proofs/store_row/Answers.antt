use Rattle.std.proofs.Common.{[], ap, ◌∙◌}
use Rattle.rows.specs.Words.{row_of}
use Rattle.rows.proofs.Told.{read_back}
use Rattle.stored.proofs.Sources.{followed_whole}
use Rattle.stored.proofs.store_row.Goals as goal

pub store-requires : goal.store-requires
store-requires c = (c.requires.0, [], followed_whole c.requires.0 _ c.requires.2.fields c.requires.1, c.requires.2, c.requires.2.shallow, c.requires.3)

pub returns : goal.returns
returns c = record {
  long = λ r e s. (c.store.ensures r [] (followed_whole r _ s.fields e)).0.numbers;
  words = λ r e s. (c.store.ensures r [] (followed_whole r _ s.fields e)).0.words;
  told = λ r e s. ap (row_of 32) (c.store.ensures r [] (followed_whole r _ s.fields e)).0.words ∙ read_back r _ s;
}
