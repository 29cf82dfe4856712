mod Ascending
mod ExprLiterals
mod FunctionLiterals
mod Near
mod StatementLiterals
mod Walks
