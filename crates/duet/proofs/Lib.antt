mod AskingLaws
mod Coming
