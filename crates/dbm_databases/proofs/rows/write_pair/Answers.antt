use Rattle.std.proofs.Common.{codes}
use Rattle.std.proofs.lemmas.Result.{on_ok_weaker}
use Rattle.json.specs.Token.{begin_object, end_object, key as member}
use Rattle.byte_text.specs.JsonValues.{text_tokens, value_tokens}
use Rattle.dbm_databases.proofs.PairTokens.{joined}
use Rattle.dbm_databases.proofs.rows.write_pair.Goals as goal

pub returns-clause-tokens : goal.returns-clause-tokens
returns-clause-tokens g c =
    on_ok_weaker c.end_object.result
    (joined c.args.writer.now.tokens c.begin_object.new.self.tokens c.key.new.self.tokens c.write_text.new.writer.tokens c.key-2.new.self.tokens c.write_value.new.writer.tokens
    c.end_object.new.self.tokens (text_tokens c.args.key.now) (value_tokens c.args.layout.now c.args.value.now) begin_object (member (codes "key")) (member (codes "value")) end_object
    c.in_ok-begin_object.ensures.ok c.in_ok-key.ensures.ok c.in_ok-write_text.ensures.tokens c.in_ok-key-2.ensures.ok c.in_ok-write_value.ensures.tokens)
    c.end_object.ensures.ok
