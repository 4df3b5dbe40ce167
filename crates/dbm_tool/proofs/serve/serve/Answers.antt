use Rattle.dbm_tool.proofs.serve.serve.Goals as goal

pub returns-clause-served : goal.returns-clause-served
returns-clause-served g c = c.serve_wish.ensures.served

pub returns-clause-fault : goal.returns-clause-fault
returns-clause-fault g c = c.serve_wish.ensures.fault

pub returns-clause-unread : goal.returns-clause-unread
returns-clause-unread g c = c.serve_wish.ensures.unread

pub returns-clause-database : goal.returns-clause-database
returns-clause-database g c = c.serve_wish.ensures.database
