-- Each sign is said in its way, and any other byte is itself.
use Rattle.text.specs.Laws.Puts.{put_as}
use Rattle.words.specs.Patterns.{said}
use Rattle.words.proofs.Patterns.{said_itself}
use Rattle.words.proofs.put_said.Goals as goal

pub returns-in-35 : goal.returns-in-35
unfolding said
returns-in-35 c = rw c.in-35.is c.small.ensures

pub returns-in-36 : goal.returns-in-36
unfolding said
returns-in-36 c = rw c.in-36.is c.put_level.ensures

pub returns-in-37 : goal.returns-in-37
unfolding said
returns-in-37 c = rw c.in-37.is c.put_kind.ensures

pub returns-in-38 : goal.returns-in-38
unfolding said
returns-in-38 c = rw c.in-38.is c.put_request.ensures

pub returns-in-39 : goal.returns-in-39
unfolding said
returns-in-39 c = rw c.in-39.is c.put_answer.ensures

pub returns-in-34 : goal.returns-in-34
unfolding said
returns-in-34 c = rw c.in-34.is c.put_flag_word.ensures

pub returns-in-33 : goal.returns-in-33
unfolding said
returns-in-33 c = rw c.in-33.is c.put_number.ensures

pub returns-in-42 : goal.returns-in-42
unfolding said
returns-in-42 c = rw c.in-42.is c.put_set.ensures

pub returns-in-64 : goal.returns-in-64
unfolding said
returns-in-64 c = rw c.in-64.is c.put_role.ensures

pub returns-in-60 : goal.returns-in-60
unfolding said
returns-in-60 c = rw c.in-60.is c.put_trust.ensures

pub returns-in-62 : goal.returns-in-62
unfolding said
returns-in-62 c = rw c.in-62.is c.put_automatic.ensures

pub returns-in-61 : goal.returns-in-61
unfolding said
returns-in-61 c = rw c.in-61.is c.put_category.ensures

pub returns-in-63 : goal.returns-in-63
unfolding said
returns-in-63 c = rw c.in-63.is c.put_data_type.ensures

pub returns-in_default : goal.returns-in_default
returns-in_default c =
    let a = c.args in
    let m = c.in_default.in_default-own.rest in
    put_as
    (said_itself a.x a.n m.0.0.0.0.0.0.0.0.0.0.0.0.1 m.0.0.0.0.0.0.0.0.0.0.0.1 m.0.0.0.0.0.0.0.0.0.0.1
    m.0.0.0.0.0.0.0.0.0.1 m.0.0.0.0.0.0.0.0.1 m.0.0.0.0.0.0.0.1 m.0.0.0.0.0.0.1 m.0.0.0.0.0.1
    m.0.0.0.0.1 m.0.0.0.1 m.0.0.1 m.0.1 m.1) c.text.ensures
